use Rattle.mk_path.proofs.Begin as begin
use Rattle.mk_path.proofs.laws.folders_begin.Goals as goal

pub returns : goal.returns
returns c = record { own = begin.own_folder; begin = begin.folders_begin }
