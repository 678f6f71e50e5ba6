use Rattle.window_files.proofs.Heads.{one_window}
use Rattle.window_files.proofs.laws.a_file_is_of_one_window.Goals as goal

pub returns : goal.returns
returns c = one_window
