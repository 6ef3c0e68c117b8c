use Rattle.std.proofs.Common.{List, ◌≡◌, Ok, sym, ap, ◌∙◌, subst, map}
use Rattle.std.specs.Prelude.{IfErr, IfOk}
use Rattle.mk_name.specs.Gives.{Halts}
use Rattle.mk_name.specs.Names.{Name}
use Rattle.mk_rules.specs.Book.{targets_of}
use Rattle.mk_jobs.specs.Plan.{names_of}
use Rattle.mk_jobs.specs.Rows.{with_rows}
use Rattle.mk_foot.specs.Attached.{HasAll, attached_beside, owned_names}
use Rattle.mk_foot.proofs.OwnedNames.{has_names}
use Rattle.mk_foot.proofs.attaching.rows_beside.Goals as goal

pub rows_of-requires-clause-whole : goal.rows_of-requires-clause-whole
rows_of-requires-clause-whole c =
    let names = names_of c.args.plan.now.nodes in
    let targets = targets_of c.args.rulebook.now.rules in
    let is : map (λ name. name.now) c.as_slice.result.now ≡ owned_names names targets =
    ap (map (λ name. name.now)) c.as_slice.ensures.value ∙ c.in_ok-owned.ensures.names in
    subst (λ (list : List Name). HasAll list names) (sym is) (has_names names targets)

pub returns-clause-rows : goal.returns-clause-rows
returns-clause-rows c =
    let is : map (λ name. name.now) c.as_slice.result.now ≡ owned_names (names_of c.args.plan.now.nodes) (targets_of c.args.rulebook.now.rules) =
    ap (map (λ name. name.now)) c.as_slice.ensures.value ∙ c.in_ok-owned.ensures.names in
    subst (λ (list : List Name). IfOk c.rows_of.result (λ rows. attached_beside list c.args.plan.now c.args.footprints
    ≡ Ok (with_rows c.args.plan.now rows.root rows.reads.items rows.writes.items))) is c.rows_of.ensures.rows

pub returns-clause-fault : goal.returns-clause-fault
returns-clause-fault c =
    let is : map (λ name. name.now) c.as_slice.result.now ≡ owned_names (names_of c.args.plan.now.nodes) (targets_of c.args.rulebook.now.rules) =
    ap (map (λ name. name.now)) c.as_slice.ensures.value ∙ c.in_ok-owned.ensures.names in
    subst (λ (list : List Name). IfErr c.rows_of.result (λ halt. Halts halt (attached_beside list c.args.plan.now c.args.footprints))) is c.rows_of.ensures.fault
