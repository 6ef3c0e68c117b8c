-- Files with one more: the order of names, and what stands at each.
use Rattle.std.proofs.Common.{◌≡◌, Less, Equal, Greater, false, cond, List, [], ◌∷◌, ◌++◌, Some, None, refl, ap, ◌∙◌, inl, inr, Ordering}
use Rattle.std.specs.Cmp.Lexicographic.{slice_cmp, nat_list_cmp_total, nat_list_eq_equiv}
use Rattle.std.specs.List.{AllByRecursion}
use Rattle.std.specs.List.Sorted.{IsStrictlySortedBy}
use Rattle.std.specs.Map.{keys_of}
use Rattle.std.specs.Ordering.{nat_cmp, match_ordering, ordering_reverse}
use Rattle.std.proofs.lemmas.Bool.{cases_Bool}
use Rattle.mk_name.specs.Names.{Name, same_name}
use Rattle.mk_name.proofs.Names.{name_is_exact}
use Rattle.mk_sched.specs.Stores.{File}
use Rattle.mk_sched.specs.Stored.{IsInOrder, StoredFiles, store_of, with_file}

-- what holds of each name, and of one more, holds of each with it
all_with : (P : Name → Type 0) (files : StoredFiles) (x : Name) (file : File) → AllByRecursion P (keys_of files) → P x → AllByRecursion P (keys_of (with_file files x file))
all_with P [] x file all own = (own, tt)
all_with P (e ∷ files) x file all own = by (slice_cmp nat_cmp x e.0) (all_with P files x file all.1 own)
  where
    by : (o : Ordering) → AllByRecursion P (keys_of (with_file files x file)) → AllByRecursion P (keys_of (match_ordering o ((x, file) ∷ e ∷ files) ((e.0, file) ∷ files) (e ∷ with_file files x file)))
    by Less rest = (own, all)
    by Equal rest = all
    by Greater rest = (all.0, rest)

-- what is behind a name is behind those before it
all_later : (x y : Name) (names : List Name) → slice_cmp nat_cmp x y ≡ Less → AllByRecursion (λ z. slice_cmp nat_cmp y z ≡ Less) names → AllByRecursion (λ z. slice_cmp nat_cmp x z ≡ Less) names
all_later x y [] less all = tt
all_later x y (z ∷ names) less all = (nat_list_cmp_total.trans x y z less all.0, all_later x y names less all.1)

-- names rise in files with one more
pub in_order_with : (files : StoredFiles) (x : Name) (file : File) → IsInOrder files → IsInOrder (with_file files x file)
unfolding IsStrictlySortedBy
in_order_with [] x file in_order = (tt, tt)
in_order_with (e ∷ files) x file in_order = by (slice_cmp nat_cmp x e.0) refl (in_order_with files x file in_order.1)
  where
    by : (o : Ordering) → slice_cmp nat_cmp x e.0 ≡ o → IsInOrder (with_file files x file) → IsInOrder (match_ordering o ((x, file) ∷ e ∷ files) ((e.0, file) ∷ files) (e ∷ with_file files x file))
    by Less is rest = ((is, all_later x e.0 (keys_of files) is in_order.0), in_order)
    by Equal is rest = in_order
    by Greater is rest =
        let less : slice_cmp nat_cmp e.0 x ≡ Less = nat_list_cmp_total.antisymm e.0 x ∙ ap ordering_reverse is in
        (all_with (λ y. slice_cmp nat_cmp e.0 y ≡ Less) files x file in_order.0 less, rest)

-- what stands at a name in files with a last one, whose name was free
pub store_last : (files : StoredFiles) (path : Name) (file : File) (x : Name) → store_of files path ≡ None
    → store_of (files ++ (path, file) ∷ []) x ≡ cond (same_name path x) (Some file) (store_of files x)
store_last [] path file x free = ap (λ b. cond b (Some file) None) (nat_list_eq_equiv.symm x path)
store_last (e ∷ files) path file x free =
    elim (cases_Bool (same_name path e.0)) [
      | inl same ↦ absurd (let found : Some e.1 ≡ None = rw same at free in cc)
      | inr apart ↦
          let rest : store_of files path ≡ None = rw apart at free in
          elim (cases_Bool (same_name x e.0)) [
            | inl same ↦
                let other : same_name path x ≡ false = ap (same_name path) (name_is_exact.equal x e.0 same) ∙ apart in
                rw (same, other) refl
            | inr else ↦ rw else (store_last files path file x rest)
          ]
    ]
