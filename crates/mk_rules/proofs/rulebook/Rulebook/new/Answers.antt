use Rattle.std.proofs.Common.{◌≡◌, ◌∙◌, ap, subst, filter, map, IfOk}
use Rattle.mk_rules.specs.Book.{Book, book_of, is_target_rule, without_waits}
use Rattle.mk_rules.proofs.rulebook.Rulebook.new.Goals as goal

-- two books of the same parts are the same
same_book : (a b : Book) → a.rules ≡ b.rules → a.suffixes ≡ b.suffixes → a.inference ≡ b.inference → a.phony ≡ b.phony → a.has_default ≡ b.has_default → a.wait_uses ≡ b.wait_uses → a ≡ b
same_book a b rules suffixes inference phony default waits =
    ap (λ x. record a { rules = x }) rules
    ∙ ap (λ x. record a { rules = b.rules; suffixes = x }) suffixes
    ∙ ap (λ x. record a { rules = b.rules; suffixes = b.suffixes; inference = x }) inference
    ∙ ap (λ x. record b { phony = x; has_default = a.has_default; wait_uses = a.wait_uses }) phony
    ∙ ap (λ x. record b { has_default = x; wait_uses = a.wait_uses }) default
    ∙ ap (λ x. record b { wait_uses = x }) waits

pub returns : goal.returns
returns c =
    let said = c.in_ok-specials.ensures in
    let all = c.deref-2.ensures.value in
    let Is : Book → Type 0 = λ b. IfOk c.of_rules.result (λ book. book ≡ b) in
    let suffixes = said.suffixes ∙ ap (λ entries. (book_of entries).suffixes) all in
    subst Is
    (same_book _ (book_of c.args.entries.items)
    (c.in_ok-rules.ensures ∙ ap (λ names. map without_waits (filter (is_target_rule names) c.args.entries.items)) suffixes)
    suffixes
    (said.inference ∙ ap (λ entries. (book_of entries).inference) all)
    (said.phony ∙ ap (λ entries. (book_of entries).phony) all)
    (said.has_default ∙ ap (λ entries. (book_of entries).has_default) all)
    (said.wait_uses ∙ ap (λ entries. (book_of entries).wait_uses) all))
    c.of_rules.ensures
