use Rattle.std.proofs.Common.{◌∙◌, ◌++◌, List, ℕ, append_assoc, subst}
use Rattle.std.proofs.KnownBytes.{Consumes-trans}
use Rattle.mk_read.proofs.devices.feed_all.Goals as goal

pub reads-preserved : goal.reads-preserved
reads-preserved g c =
    let before = c.reads.invariant.fed in
    record {
      works = c.in_ok-n.ensures.failed;
      same = c.in_ok-n.ensures.same ∙ c.reads.invariant.same;
      fed = (
        before.0 ++ _,
        Consumes-trans _ _ _ _ _ before.1 c.in_ok-n.ensures.bytes,
        λ root text first.
            subst (λ (t : List ℕ). g.R.LineReader.has_read c.take.new.self root t) (append_assoc text before.0 _)
            (c.take.ensures root (text ++ before.0) (before.2 root text first)),
      );
    }
