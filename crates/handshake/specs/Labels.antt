-- What the tags of a handshake are for.
use Rattle.std.specs.Prelude.{ℕ}
use Rattle.handshake.specs.declared.label.Label.{Label}
use Rattle.handshake.specs.declared.label.Label.TheVariants.{Ask, Answer}

-- the first byte of what a tag is made of: the number of no kind of frame
abbrev pub label_number : Label → ℕ
label_number Ask = 8
label_number Answer = 9
