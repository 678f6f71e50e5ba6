-- What a prompt asks for.
use Rattle.admission.specs.declared.input.Input.{Input}
use Rattle.admission.specs.declared.input.Input.TheVariants as input
use Rattle.turns.specs.declared.prompt.Prompt.{Prompt}
use Rattle.turns.specs.declared.prompt.Prompt.TheVariants as prompt

-- the input of its step
abbrev pub input_of : Prompt → Input
input_of prompt.Beat = input.Beat
input_of (prompt.Timeout view) = input.Timeout
