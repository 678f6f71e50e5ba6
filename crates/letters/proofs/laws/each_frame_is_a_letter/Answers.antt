use Rattle.letters.proofs.OneText.{a_frame}
use Rattle.letters.proofs.laws.each_frame_is_a_letter.Goals as goal

pub returns : goal.returns
returns c = a_frame
