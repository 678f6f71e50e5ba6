-- A replica that has made no step.
use Rattle.ids.specs.declared.limits.TheConstants.{MOST_BLOCKS}
use Rattle.std.proofs.Common.{List, ◌≡◌, [], refl, sym, ap, subst, None}
use Rattle.definitions.specs.Frames.{genesis_core}
use Rattle.definitions.specs.Keyrings.{Keys}
use Rattle.definitions.specs.Digests.{digest}
use Rattle.definitions.specs.Chronicles.{standing_blocks}
use Rattle.definitions.specs.Chronicles.{taken_blocks, stored_blocks, tree, decided, decided_by, executed}
use Rattle.definitions.specs.Chronicles.{history, horizon}
use Rattle.definitions.specs.Branches.{highest}
use Rattle.definitions.specs.FrameLimits.{IsCore}
use Rattle.definitions.specs.Digests.{AllKnown}
use Rattle.definitions.specs.Histories.{History, history_of}
use Rattle.definitions.specs.Replicas.{running, held_history, held_pending}
use Rattle.definitions.specs.Frames.{Command}
use Rattle.replica.specs.Advances.{IsWholeOf}
use Rattle.definitions.specs.States.{qc_high, leaf, pending, proposed}
use Rattle.pacemaker.specs.Pacing.{IsPaceOf}
use Rattle.replica_rules.specs.Ruled.{ref_of, ruled_by}
use Rattle.vote_collector.specs.Collecting.{Collected}
use Rattle.vote_collector.specs.Following.{IsVotesOf}
use Rattle.definitions.proofs.Sound.{only-genesis, first-sound}
use Rattle.vote_collector.proofs.Steps.{begins-empty}
use Rattle.replica.specs.Kept.{StateParts, IsStateOf}

-- the state at the start
pub first : (keys : Keys) (s : StateParts)
    → s.variables
    ≡ record {
      chronicle = [];
      most = MOST_BLOCKS;
      horizon = 0;
      stored = [];
      rules = ruled_by [];
      high =
          record { block = ref_of []; certificate = record { digest = digest genesis_core; votes = [] } };
      leaf = ref_of [];
      own = None;
    }
    → s.pace.sizes ≡ keys.sizes → IsPaceOf [] s.pace → s.votes ≡ record { sizes = keys.sizes; kept = [] }
    → s.pending ≡ [] → IsStateOf keys [] s
unfolding qc_high leaf proposed pending standing_blocks stored_blocks taken_blocks horizon
first keys s e z p v w = record {
  same = e;
  sizes = z;
  pace = p;
  vote_sizes = ap (λ (x : Collected). x.sizes) v;
  votes = subst (λ (x : Collected). IsVotesOf keys.sizes [] x.kept) (sym v) (begins-empty keys.sizes);
  sound = first-sound keys.sizes;
  waits = w;
}

-- with nothing executed
pub first-whole : (keys : Keys) (s : StateParts) (h : History) → IsStateOf keys [] s → h ≡ []
    → IsWholeOf keys (record { chronicle = []; standing = running }) s h
unfolding held_history held_pending history history_of executed decided highest decided_by tree
    stored_blocks taken_blocks
first-whole keys s h is e =
    record {
      state = subst (λ (l : List Command). IsStateOf keys [] (record s { pending = l })) is.waits is;
      waits = is.waits;
      history = e;
      fit = λ x m. subst (AllKnown (IsCore keys.sizes)) (sym (only-genesis x m)) tt;
      stored = λ a m. absurd m;
      sized = tt;
    }

pub first-history : held_history (record { chronicle = []; standing = running }) ≡ []
unfolding held_history history history_of executed decided highest decided_by tree stored_blocks taken_blocks
first-history = refl
