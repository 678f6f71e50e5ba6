-- Cores that are compared.
use Rattle.std.specs.Prelude.{◌≡◌, Some}
use Rattle.definitions.specs.Lists.{Among}
use Rattle.definitions.specs.Frames.{Core, genesis_core}
use Rattle.definitions.specs.Digests.{digest}
use Rattle.definitions.specs.Chronicles.{Admitted, Step.took_block, Chronicle}
use Rattle.definitions.specs.Audit.{Judged, CorePlace, core_at}
use Rattle.frames_view.specs.Views.{core_of}
use Rattle.audit.specs.declared.cores.KnownCore.{KnownCore}
use Rattle.audit.specs.declared.cores.KnownCore.TheVariants.{Genesis, Block}

-- the core that is known
abbrev pub known : KnownCore → Core
known Genesis = genesis_core
known (Block c) = core_of c

-- the core is that of a block which was admitted
abbrev pub Stores : Chronicle → Core → Type 0
Stores c core = (a : Admitted) × Among (took_block a) c × (a.core ≡ core)

-- two unequal cores of one digest
abbrev pub Collide : Core → Core → Type 0
Collide a b = (a ≡ b → ⊥) × (digest a ≡ digest b)

-- at the place stands a core that collides with this one
abbrev pub CollidesAt : Judged → Core → CorePlace → Type 0
CollidesAt ks a p = (b : Core) × (core_at ks p ≡ Some b) × Collide a b
