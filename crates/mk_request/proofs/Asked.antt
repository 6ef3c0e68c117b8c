-- Lemmas on the subcommand that the words name.
use Rattle.std.proofs.Common.{◌≡◌, ◌∙◌, ◌⊎◌, inl, inr, Bool, true, false, List, [], ◌∷◌, codes, Option, Some, None, option_map, sym, ap, ap₂, subst, refl, cond}
use Rattle.std.proofs.lemmas.Option.{none-some, same_Some}
use Rattle.clap.specs.Kinds.{or_else}
use Rattle.clap.specs.Words.{HasKind, Kinds, Row, Text, built, kind_of, subcommand_name_of, subcommand_of, subcommand_rows_of}
use Rattle.clap.specs.declared.error.Error.{Error}
use Rattle.clap.specs.declared.error.kind.ErrorKind.{ErrorKind}
use Rattle.clap.specs.declared.parser.matches.ArgMatches.{ArgMatches}
use Rattle.clap.specs.declared.parser.matches.ArgMatches.TheViews.{out-ArgMatches}
use Rattle.clap.specs.Walk.{answers_to, stop_after}
use Rattle.clap.specs.Simple.{App, Shape, argument_words, built_leaf, entered, inherited, label_of, marked_built, names_of, rows_at, with_leaf_noted}
use Rattle.mk_request.specs.CommandLine as spec
use Rattle.mk_request.specs.declared.requests.Request.{Request}

-- a parse that enters one of eight subcommands enters the first, the second, the third, the fourth, the fifth, the sixth, the seventh or the eighth
entered_name : (a : App) (s t u v w x z q : Shape) (stop : Option (Text × List Text)) (found : Text × List Row)
    → a.subs ≡ s ∷ (t ∷ (u ∷ (v ∷ (w ∷ (x ∷ (z ∷ (q ∷ []))))))) → entered a stop ≡ Some found
    → (found.0 ≡ s.name) ⊎ (found.0 ≡ t.name) ⊎ (found.0 ≡ u.name) ⊎ (found.0 ≡ v.name) ⊎ (found.0 ≡ w.name) ⊎ (found.0 ≡ x.name) ⊎ (found.0 ≡ z.name)
    ⊎ (found.0 ≡ q.name)
entered_name a s t u v w x z q None found all e = absurd (none-some found e)
entered_name a s t u v w x z q (Some p) found all e =
    go (answers_to p.0 (label_of s)) (answers_to p.0 (label_of t)) (answers_to p.0 (label_of u)) (answers_to p.0 (label_of v)) (answers_to p.0 (label_of w))
    (answers_to p.0 (label_of x)) (answers_to p.0 (label_of z)) (answers_to p.0 (label_of q))
    (ap (λ (subs : List Shape). entered (record a { subs = subs }) (Some p)) (sym all) ∙ e)
  where
    go : (b d f h k l m n : Bool)
        → option_map (λ (y : Shape). rows_at y p.1)
        (cond b (Some s) (cond d (Some t) (cond f (Some u) (cond h (Some v) (cond k (Some w) (cond l (Some x) (cond m (Some z) (cond n (Some q) None)))))))) ≡ Some found
        → (found.0 ≡ s.name) ⊎ (found.0 ≡ t.name) ⊎ (found.0 ≡ u.name) ⊎ (found.0 ≡ v.name) ⊎ (found.0 ≡ w.name) ⊎ (found.0 ≡ x.name) ⊎ (found.0 ≡ z.name)
        ⊎ (found.0 ≡ q.name)
    go true d f h k l m n e = inl (ap (λ (y : Text × List Row). y.0) (sym (same_Some _ _ e)))
    go false true f h k l m n e = inr (inl (ap (λ (y : Text × List Row). y.0) (sym (same_Some _ _ e))))
    go false false true h k l m n e = inr (inr (inl (ap (λ (y : Text × List Row). y.0) (sym (same_Some _ _ e)))))
    go false false false true k l m n e = inr (inr (inr (inl (ap (λ (y : Text × List Row). y.0) (sym (same_Some _ _ e))))))
    go false false false false true l m n e = inr (inr (inr (inr (inl (ap (λ (y : Text × List Row). y.0) (sym (same_Some _ _ e)))))))
    go false false false false false true m n e = inr (inr (inr (inr (inr (inl (ap (λ (y : Text × List Row). y.0) (sym (same_Some _ _ e))))))))
    go false false false false false false true n e = inr (inr (inr (inr (inr (inr (inl (ap (λ (y : Text × List Row). y.0) (sym (same_Some _ _ e)))))))))
    go false false false false false false false true e = inr (inr (inr (inr (inr (inr (inr (ap (λ (y : Text × List Row). y.0) (sym (same_Some _ _ e)))))))))
    go false false false false false false false false e = absurd (none-some found e)

-- the subcommand that the words name is one of the program's
pub one_named : (words : List Text) (found : Text × List Row) → subcommand_of spec.race_app words ≡ Some found
    → (found.0 ≡ codes "order") ⊎ (found.0 ≡ codes "check") ⊎ (found.0 ≡ codes "verify") ⊎ (found.0 ≡ codes "replay") ⊎ (found.0 ≡ codes "serialise")
    ⊎ (found.0 ≡ codes "list") ⊎ (found.0 ≡ codes "fix") ⊎ (found.0 ≡ codes "missing")
one_named words found e =
    let top = with_leaf_noted (marked_built spec.race_app.top) in
    let stop = stop_after (built spec.race_app).top.rules (names_of (built spec.race_app)) (argument_words spec.race_app words) in
    entered_name (built spec.race_app) (built_leaf (inherited top spec.order_app.top)) (built_leaf (inherited top spec.check_app.top))
    (built_leaf (inherited top spec.verify_app.top)) (built_leaf (inherited top spec.replay_app.top)) (built_leaf (inherited top spec.serialise_app.top))
    (built_leaf (inherited top spec.list_app.top)) (built_leaf (inherited top spec.fix_app.top)) (built_leaf (inherited top spec.missing_app.top))
    stop found refl e

map_map : {X Y Z : Type 0} (f : Y → Z) (g : X → Y) (o : Option X) → option_map f (option_map g o) ≡ option_map (λ (x : X). f (g x)) o
map_map f g None = refl
map_map f g (Some x) = refl

-- the parts of what was found
found_parts : (o : Option (Text × List Row)) (name : Text) (rows : List Row) → option_map (λ (p : Text × List Row). p.0) o ≡ Some name
    → option_map (λ (p : Text × List Row). p.1) o ≡ Some rows → o ≡ Some (name, rows)
found_parts None name rows n r = absurd (none-some name n)
found_parts (Some found) name rows n r = ap Some (ap₂ (λ (x : Text) (y : List Row). (x, y)) (same_Some _ _ n) (same_Some _ _ r))

-- what the matches say of their subcommand is what the words name
pub found_is : (m : ArgMatches) (o : Option (Text × List Row)) (name : Text) (rows : List Row) → subcommand_rows_of m ≡ o → Some name ≡ subcommand_name_of m
    → Some rows ≡ option_map (λ (p : Text × List Row). p.1) (subcommand_rows_of m) → o ≡ Some (name, rows)
found_is m o name rows same n r =
    let named : option_map (λ (p : Text × List Row). p.0) (subcommand_rows_of m) ≡ subcommand_name_of m = map_map (λ (p : Text × List Row). p.0) _ (out-ArgMatches m).subcommand in
    found_parts o name rows (ap (option_map (λ (p : Text × List Row). p.0)) (sym same) ∙ named ∙ sym n) (ap (option_map (λ (p : Text × List Row). p.1)) (sym same) ∙ sym r)

-- what was asked is what was found
pub asks : (request : Request) (o : Option (Text × List Row)) (name : Text) (rows : List Row) → o ≡ Some (name, rows) → spec.IsFor request name rows → spec.Asks request o
asks request o name rows e is = subst (spec.Asks request) (sym e) is

-- what `clap` finds wrong is wrong
pub still_wrong : (kinds more : Kinds) (error : Error) → HasKind kinds error → HasKind (or_else kinds more) error
still_wrong [] more error (inl memory) = inl memory
still_wrong [] more error (inr among) = absurd among
still_wrong (kind ∷ kinds) more error has = has

-- where neither is wrong, nothing is
pub none_wrong : (kinds more : Kinds) → kinds ≡ [] → more ≡ [] → or_else kinds more ≡ []
none_wrong kinds more none no_more = ap₂ or_else none no_more

-- what is wrong with the values is wrong
pub value_wrong : (o : Option (Text × List Row)) (found : Text × List Row) (kinds : Kinds) (kind : ErrorKind) (error : Error) → o ≡ Some found
    → spec.value_kinds (Some found) ≡ kind ∷ [] → kinds ≡ [] → kind_of error ≡ kind → HasKind (or_else kinds (spec.value_kinds o)) error
value_wrong o found kinds kind error is wrong none same =
    subst (λ (k : Kinds). HasKind k error) (sym (ap₂ or_else none (ap spec.value_kinds is ∙ wrong))) (inr (inl same))
