use Rattle.mj_serial.proofs.Runs as runs
use Rattle.mj_serial.proofs.Clashes as clash
use Rattle.mj_serial.proofs.laws.of_all_programs.Goals as goal

pub returns : goal.returns
returns c = record { serial = runs.serial; clashes = clash.clashes }
