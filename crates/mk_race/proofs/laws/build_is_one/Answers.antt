use Rattle.mk_race.proofs.OneBuild.{build_is_one, first_fault_is_one}
use Rattle.mk_race.proofs.laws.build_is_one.Goals as goal

pub returns : goal.returns
returns c = record { prepared = build_is_one; fault = first_fault_is_one }
