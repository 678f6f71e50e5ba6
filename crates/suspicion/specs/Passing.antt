-- Whose votes a leader passes over.
use Rattle.std.specs.Prelude.{ℕ, Bool, List, count_by, get_or, nat_le, nat_lt, replicate, slice_set, if◌then◌else◌}
use Rattle.ids.specs.declared.limits.TheConstants.{MOST_REPLICAS}
use Rattle.suspicion.specs.ReplicaSets.{both, is_in, nobody, size, those, with_replica}

-- at most so many are passed over: these; what each replica told, who told something, and who isn't heard
pub record PassingState : Type 0 where
  pub most : ℕ
  pub voters : List Bool
  pub told : List (List Bool)
  pub tellers : List Bool
  pub unheard : List Bool

-- nobody is passed over, nothing was told, and these aren't heard
abbrev pub without : (most : ℕ) → (unheard : List Bool) → PassingState
without most unheard = record {
  most = most;
  voters = nobody;
  told = replicate MOST_REPLICAS nobody;
  tellers = nobody;
  unheard = unheard;
}

-- so many replicas told that a voter's votes weren't right for them, where this is what each told
abbrev pub tellers : (told : List (List Bool)) → (voter : ℕ) → ℕ
tellers told voter = count_by (λ voters. is_in voters voter) told

-- those of whom so many told this that one of them is correct
abbrev pub sure : (faults : ℕ) → (told : List (List Bool)) → List Bool
sure faults told = those (λ voter. nat_lt faults (tellers told voter))

-- who is passed over once these were found: those of before, too, or else these alone, unless they are too many themselves
abbrev pub passed : (most : ℕ) → (before found : List Bool) → List Bool
passed most before found =
    if nat_le (size (both before found)) most then both before found
    else (if nat_le (size found) most then found else before)

-- whom to find where a replica told of these, once it's noted: these, if it is heard
abbrev pub believed : PassingState → (from : ℕ) → (voters : List Bool) → List Bool
believed p from voters = if is_in p.unheard from then sure p.most p.told else voters

-- a replica told of these: it's noted
abbrev pub noted : PassingState → (from : ℕ) → (voters : List Bool) → PassingState
noted p from voters = record p {
  told = slice_set p.told from (both (get_or p.told from nobody) voters);
  tellers = with_replica p.tellers from;
}

-- whether those that are passed over, all who told something, this one and these together are no more than may be faulty: then
-- a quorum is left without them
abbrev pub spares : PassingState → (from : ℕ) → (voters : List Bool) → Bool
spares p from voters = nat_le (size (with_replica (both (both p.voters p.tellers) voters) from)) p.most

-- and they are found as far as it's believed
abbrev pub found : PassingState → (voters : List Bool) → PassingState
found p voters = record p { voters = passed p.most p.voters voters }

abbrev pub heard : PassingState → (from : ℕ) → (voters : List Bool) → PassingState
heard p from voters =
    if nat_lt from MOST_REPLICAS then found (noted p from voters) (believed (noted p from voters) from voters) else p
