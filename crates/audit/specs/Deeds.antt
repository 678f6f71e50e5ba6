-- What a step relies on other replicas to have done before it.
use Rattle.std.specs.Prelude.{ℕ, ◌≡◌, ◌||◌, not, Bool, false, List}
use Rattle.definitions.specs.Bytes.{Bytes}
use Rattle.definitions.specs.Lists.{Among}
use Rattle.definitions.specs.Chronicles.{Step}
use Rattle.definitions.specs.Audit.{Judged, Cut, Reason, missing_vote, missing_take, is_judged}
use Rattle.definitions.specs.Audit.{gives_vote, takes, counted_by, counted_for, sent_by, sent_block}
use Rattle.definitions.specs.Audit.{has_vote, has_taken}
use Rattle.audit.specs.declared.deeds.Deed.{Deed}
use Rattle.audit.specs.declared.deeds.Deed.TheVariants.{Vote, Take}
use Rattle.audit.specs.declared.deeds.Missing.{Missing}

-- a step does it for the block of a digest
abbrev pub does : Deed → Bytes → Step → Bool
does Vote d s = gives_vote d s
does Take d s = takes d s

-- the replicas that a step names for it
abbrev pub named_by : Deed → Step → List ℕ
named_by Vote s = counted_by s
named_by Take s = sent_by s

-- the block for which it names them
abbrev pub named_for : Deed → Step → Bytes
named_for Vote s = counted_for s
named_for Take s = sent_block s

-- v did it in the cut
abbrev pub is_done : Deed → Judged → Cut → Bytes → ℕ → Bool
is_done Vote ks k d v = has_vote ks k d v
is_done Take ks k d v = has_taken ks k d v

-- v isn't judged, or did it in the cut
abbrev pub stands : Deed → Judged → Cut → Bytes → ℕ → Bool
stands deed ks k d v = not (is_judged ks v) || is_done deed ks k d v

-- the step names v for the deed, for the block of a digest
pub record IsNamed (deed : Deed) (s : Step) (d : Bytes) (v : ℕ) : Type 0 where
  pub among : Among v (named_by deed s)
  pub block : named_for deed s ≡ d

-- the step relies on the deed, which doesn't stand
pub record IsMissing (ks : Judged) (k : Cut) (s : Step) (m : Missing) : Type 0 where
  pub named : IsNamed m.deed s m.block m.replica
  pub missing : stands m.deed ks k m.block m.replica ≡ false

-- the reason that v's missing deed is, where the step is u's
abbrev pub reason_for : (u : ℕ) → Deed → (v : ℕ) → Bytes → Reason
reason_for u Vote v d = missing_vote u v d
reason_for u Take v d = missing_take u v d
