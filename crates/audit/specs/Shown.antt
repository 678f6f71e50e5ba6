-- What a window shows at the height of a replica's last executed block.
use Rattle.definitions.specs.Audit.{Member}
use Rattle.definitions.specs.WindowAudit.{Meets, Differs, Misses}
use Rattle.audit.specs.declared.windows.Shown.{Shown}
use Rattle.audit.specs.declared.windows.Shown.TheVariants.{Same, Other, Nothing}

-- m's window shows this for k
abbrev pub Sees : Shown → (k m : Member) → Type 0
Sees Same k m = Meets k m
Sees Other k m = Differs k m
Sees Nothing k m = Misses k m
