-- What a step makes of whether a replica was given leave to prune.
use Rattle.std.proofs.Common.{ℕ, ◌≡◌, Bool, true, false, true≢false, List, [], ◌∷◌, length, refl, sym}
use Rattle.std.proofs.Common.{ap, ◌∙◌, subst, arith, Option, Some, None, Result, Ok, Err}
use Rattle.std.specs.Prelude.{nat_lt, ⊤, ◌&&◌, not, MatchOption, reverse}
use Rattle.std.specs.List.{list_any}
use Rattle.ids.specs.declared.limits.TheConstants.{MOST_PENDING, MOST_BLOCKS}
use Rattle.std.proofs.lemmas.Bool.{cond_both, ltb-true}
use Rattle.ids.specs.Sizes.{leader}
use Rattle.ids.specs.declared.numbers.Height.{Height}
use Rattle.ids.specs.declared.fault.Fault.{Fault}
use Rattle.ids.specs.declared.fault.Fault.TheVariants as fault
use Rattle.definitions.specs.Bytes.{Bytes}
use Rattle.definitions.specs.Frames.{Command, Core, Certificate}
use Rattle.definitions.specs.Branches.{Branch}
use Rattle.definitions.specs.Trees.{Placing, Placing.stands, Placing.grows, Placing.lacks_parent}
use Rattle.definitions.specs.Trees.{Placing.unfit, placing}
use Rattle.definitions.specs.Chronicles.{Chronicle, Step, Step.took_block, Step.noted, Note.pruned}
use Rattle.definitions.specs.Chronicles.{Note.got_vote, Note.got_new_view, Note.got_request, Note.got_fetch}
use Rattle.definitions.specs.Chronicles.{Note.timed_out, Note.beat, Note.seen_view, Note.led_from, horizon}
use Rattle.definitions.specs.Chronicles.{executed, decided, taken_blocks}
use Rattle.definitions.specs.Chronicles.{history, standing_blocks, window, was_pruned}
use Rattle.definitions.specs.Checks.{Identity, Findings}
use Rattle.definitions.specs.Histories.{Entry}
use Rattle.definitions.specs.Rulings as rulings
use Rattle.definitions.specs.Rulings.{Ruling, Ruling.due, Ruling.missing, Ruling.refusing, ruling, conflicts}
use Rattle.definitions.specs.Rulings.{on_placing, on_request, with_block, lead}
use Rattle.definitions.specs.Grounds.{may_lead_from}
use Rattle.definitions.specs.States.{find_block, is_same_request, is_due, pending}
use Rattle.definitions.specs.Replicas.{MemorySupply, ample, refused_at_once, refused_after, running, stopped}
use Rattle.definitions.specs.Replicas.{cut_short, Replica, Reaction, on_step, on_ruling, step, executes}
use Rattle.definitions.specs.Replicas.{held_history, Standing, sends_out, fails, asks_for}
use Rattle.definitions.specs.Sendings.{Sending}
use Rattle.linear_law.proofs.Replies.{held-running}
use Rattle.admission.specs.Inputs.{input_of}
use Rattle.admission.specs.declared.input.Input.{Input}
use Rattle.admission.specs.declared.input.Input.TheVariants as taken
use Rattle.signed_frames.specs.Outs.{SentBytes}
use Rattle.replica.specs.Inputs.{prunes}
use Rattle.replica.specs.declared.stored.StoredStep.{StoredStep}
use Rattle.replica.specs.Replay.{replay}
use Rattle.replica.specs.Logs.{IsArchiveOf}
use Rattle.replica.specs.Steps.{Stepped, Shows}
use Rattle.replica.proofs.Grounded.{offer-by, relay-by}

-- who was never given leave has its horizon at 0
pub unpruned-low : (c : Chronicle) → was_pruned c ≡ false → horizon c ≡ 0
unfolding was_pruned horizon
unpruned-low [] e = refl
unpruned-low (took_block a ∷ c) e = unpruned-low c e
unpruned-low (noted (pruned height) ∷ c) e = absurd (true≢false e)
unpruned-low (noted (got_vote voter v b) ∷ c) e = unpruned-low c e
unpruned-low (noted (got_new_view view sender q b) ∷ c) e = unpruned-low c e
unpruned-low (noted (got_request r) ∷ c) e = unpruned-low c e
unpruned-low (noted (got_fetch sender b) ∷ c) e = unpruned-low c e
unpruned-low (noted timed_out ∷ c) e = unpruned-low c e
unpruned-low (noted beat ∷ c) e = unpruned-low c e
unpruned-low (noted (seen_view view sender) ∷ c) e = unpruned-low c e
unpruned-low (noted (led_from b) ∷ c) e = unpruned-low c e

-- ---- an input that gives none

-- a ruling whose step gives no leave
abbrev IsQuiet : Chronicle → Ruling → Type 0
IsQuiet c (due s) = was_pruned (s ∷ c) ≡ was_pruned c
IsQuiet c (missing sender d) = ⊤
IsQuiet c (refusing n) = ⊤

quiet-placing : (self : Identity) (w : Option ℕ) (sender : ℕ) (core : Core) (q : Certificate) (found : Findings)
    (c : Chronicle) (p : Placing) → IsQuiet c (on_placing self w sender core q found c p)
unfolding on_placing was_pruned
quiet-placing self w sender core q found c (stands b) = refl
quiet-placing self w sender core q found c (grows b) = refl
quiet-placing self w sender core q found c lacks_parent = tt
quiet-placing self w sender core q found c (unfit n) = tt

quiet-vote : (voter : ℕ) (v d : Bytes) (b : Option Branch) (c : Chronicle)
    → IsQuiet c (with_block b voter d (λ x. due (noted (got_vote voter v x))))
unfolding was_pruned
quiet-vote voter v d None c = tt
quiet-vote voter v d (Some x) c = refl

quiet-announced : (view sender : ℕ) (q : Certificate) (d : Bytes) (b : Option Branch) (c : Chronicle)
    → IsQuiet c (with_block b sender d (λ x. due (noted (got_new_view view sender q x))))
unfolding was_pruned
quiet-announced view sender q d None c = tt
quiet-announced view sender q d (Some x) c = refl

quiet-request : (r : Command) (c : Chronicle) → IsQuiet c (on_request r c)
unfolding on_request was_pruned
quiet-request r c =
    cond_both (
    is_due (history c) r
    && (not (list_any (is_same_request r) (pending c)) && not (nat_lt (length (pending c)) MOST_PENDING))
    ) (refusing fault.PoolFull) (due (noted (got_request r))) (IsQuiet c) (λ e. tt) (λ e. refl)

quiet-lead : (self : Identity) (o : Option Branch) (c : Chronicle) → IsQuiet c (lead self o c)
unfolding was_pruned
quiet-lead self None c = tt
quiet-lead self (Some b) c = cond_both (may_lead_from self b c) _ _ (IsQuiet c) (λ e. refl) (λ e. tt)

-- whether an input gives leave
abbrev gives_leave : rulings.Input → Bool
gives_leave (rulings.prune_in height) = true
gives_leave i = false

quiet-ruling : (self : Identity) (i : rulings.Input) (c : Chronicle) → gives_leave i ≡ false
    → IsQuiet c (ruling self i c)
unfolding ruling was_pruned
quiet-ruling self (rulings.proposal_in w core q found) c e =
    quiet-placing self (Some w) (leader self.sizes w) core q found c
    (placing (horizon c) MOST_BLOCKS core q (window c))
quiet-ruling self (rulings.block_in sender core q found) c e =
    quiet-placing self None sender core q found c (placing (horizon c) MOST_BLOCKS core q (window c))
quiet-ruling self (rulings.vote_in d b) c e = quiet-vote b.voter b.vector d (find_block d c) c
quiet-ruling self (rulings.new_view_in w sender q) c e =
    quiet-announced w sender q q.digest (find_block q.digest c) c
quiet-ruling self (rulings.request_in r) c e = quiet-request r c
quiet-ruling self (rulings.fetch_in sender d) c e = refl
quiet-ruling self rulings.timeout_in c e = refl
quiet-ruling self rulings.beat_in c e = refl
quiet-ruling self (rulings.offered_in w sender core q found) c e =
    offer-by self core q found c (IsQuiet c) (λ n. tt) (λ r d. tt) w sender
    (placing (horizon c) MOST_BLOCKS core q (window c)) (λ a k. refl)
quiet-ruling self (rulings.relayed_in senders core q found) c e =
    relay-by self core q found c (IsQuiet c) (λ n. tt) senders
    (placing (horizon c) MOST_BLOCKS core q (window c)) (λ a k. refl)
quiet-ruling self (rulings.lead_in d) c e = quiet-lead self (find_block d c) c
quiet-ruling self (rulings.ask_in replica d) c e = tt
quiet-ruling self (rulings.view_in w sender) c e = refl
quiet-ruling self (rulings.prune_in height) c e = absurd (true≢false e)

pub no-leave : (i : Input) → ((h : Height) → i ≡ taken.Prune h → ⊥) → prunes i ≡ false
no-leave (taken.Proposal p) n = refl
no-leave (taken.Block b) n = refl
no-leave (taken.Vote v) n = refl
no-leave (taken.NewView w) n = refl
no-leave (taken.Request r) n = refl
no-leave (taken.Fetch f) n = refl
no-leave taken.Timeout n = refl
no-leave taken.Beat n = refl
no-leave (taken.OfferedProposal p) n = refl
no-leave (taken.OfferedBlock b) n = refl
no-leave (taken.SeenView v) n = refl
no-leave (taken.Relayed copies) n = refl
no-leave (taken.Lead block) n = refl
no-leave (taken.Ask replica block) n = refl
no-leave (taken.Prune height) n = absurd (n height refl)

-- it does where its frame or parcel does
leave-of : (i : Input) → gives_leave (input_of i) ≡ prunes i
leave-of (taken.Proposal p) = refl
leave-of (taken.Block b) = refl
leave-of (taken.Vote v) = refl
leave-of (taken.NewView n) = refl
leave-of (taken.Request r) = refl
leave-of (taken.Fetch f) = refl
leave-of taken.Timeout = refl
leave-of taken.Beat = refl
leave-of (taken.Prune height) = refl
leave-of (taken.OfferedProposal p) = refl
leave-of (taken.OfferedBlock b) = refl
leave-of (taken.SeenView v) = refl
leave-of (taken.Relayed copies) = refl
leave-of (taken.Lead block) = refl
leave-of (taken.Ask replica block) = refl

abbrev IsAsUnpruned : Chronicle → Replica × Reaction → Type 0
IsAsUnpruned c r = was_pruned r.0.chronicle ≡ was_pruned c

quiet-step : (self : Identity) (m : MemorySupply) (s : Step) (c : Chronicle)
    → was_pruned (s ∷ c) ≡ was_pruned c → IsAsUnpruned c (on_step self m s c)
unfolding on_step
quiet-step self ample s c e = cond_both (conflicts s c) _ _ (IsAsUnpruned c) (λ x. refl) (λ x. e)
quiet-step self refused_at_once s c e = refl
quiet-step self (refused_after k) s c e =
    cond_both (conflicts s c) _ _ (IsAsUnpruned c) (λ x. refl)
    (λ x. cond_both (executes s c) _ _ (IsAsUnpruned c) (λ y. e) (λ y. refl))

quiet-on : (self : Identity) (m : MemorySupply) (v : Ruling) (c : Chronicle) → IsQuiet c v
    → IsAsUnpruned c (on_ruling self m v c)
unfolding on_ruling
quiet-on self m (due s) c e = quiet-step self m s c e
quiet-on self m (missing sender d) c e = refl
quiet-on self m (refusing n) c e = refl

quiet-whole : (self : Identity) (m : MemorySupply) (i : rulings.Input) (r : Replica)
    → gives_leave i ≡ false → IsAsUnpruned r.chronicle (step self m i r)
unfolding step
quiet-whole self m i r e = by r.standing
  where
    by : (t : Standing) → IsAsUnpruned r.chronicle (elim t as (λ x. Replica × Reaction) [
      | running ↦
          on_ruling self m (ruling self i r.chronicle) r.chronicle
      | stopped ↦ (r, fails fault.Stopped)
      | cut_short held ↦ (r, fails fault.Stopped)
    ])
    by running = quiet-on self m (ruling self i r.chronicle) r.chronicle (quiet-ruling self i r.chronicle e)
    by stopped = refl
    by (cut_short held) = refl

-- such a step leaves whether it was pruned
pub stepped-quiet : (self : Identity) (i : Input) (old : Replica)
    (result : Result (List SentBytes) Fault) (new : Replica) → prunes i ≡ false
    → Stepped self (input_of i) old result new → was_pruned new.chronicle ≡ was_pruned old.chronicle
stepped-quiet self i old result new e t =
    ap (λ (r : Replica). was_pruned r.chronicle) t.state ∙ quiet-whole self t.memory (input_of i) old (leave-of i ∙ e)

-- ---- leave to prune

-- it stands; or it is refused, and nothing was done
data Pruning (r : Replica) : Replica × Reaction → Type 0 where
  stood : (new : Replica) (out : List Sending) → was_pruned new.chronicle ≡ true
      → Pruning r (new, sends_out out)
  refused : (new : Replica) (n : Fault) → new.chronicle ≡ r.chronicle → held_history new ≡ held_history r
      → Pruning r (new, fails n)

never-executes : (height : ℕ) (c : Chronicle) → executes (noted (pruned height)) c ≡ true → ⊥
unfolding executes history executed decided taken_blocks
never-executes height c e =
    let l = ltb-true (length (history c)) (length (history c)) e in omega (arith, l)

prune-on : (self : Identity) (m : MemorySupply) (height : ℕ) (r : Replica) → r.standing ≡ running
    → Pruning r (on_step self m (noted (pruned height)) r.chronicle)
unfolding on_step conflicts was_pruned held_history
prune-on self ample height r u = stood _ _ refl
prune-on self refused_at_once height r u = refused _ fault.Memory refl (sym (held-running r u))
prune-on self (refused_after k) height r u =
    cond_both (executes (noted (pruned height)) r.chronicle) _ _ (Pruning r)
    (λ x. absurd (never-executes height r.chronicle x))
    (λ x. refused _ fault.Memory refl (sym (held-running r u)))

prune-whole : (self : Identity) (m : MemorySupply) (height : ℕ) (r : Replica)
    → Pruning r (step self m (rulings.prune_in height) r)
unfolding step ruling on_ruling
prune-whole self m height r = by r.standing refl
  where
    by : (t : Standing) → r.standing ≡ t
        → Pruning r (elim t as (λ x. Replica × Reaction) [
          | running ↦
              on_ruling self m (ruling self (rulings.prune_in height) r.chronicle) r.chronicle
          | stopped ↦ (r, fails fault.Stopped)
          | cut_short held ↦ (r, fails fault.Stopped)
        ])
    by running u = prune-on self m height r u
    by stopped u = refused r fault.Stopped refl refl
    by (cut_short held) u = refused r fault.Stopped refl refl

-- what is seen of it: it was pruned, or is as before
abbrev Seen : Replica → Replica → Result (List SentBytes) Fault → Type 0
Seen old new (Ok sent) = was_pruned new.chronicle ≡ true
Seen old new (Err n) = (new.chronicle ≡ old.chronicle) × (held_history new ≡ held_history old)

seen-of : (old : Replica) (x : Replica × Reaction) (result : Result (List SentBytes) Fault) → Pruning old x
    → Shows x.1 result → Seen old x.0 result
seen-of old (new, sends_out out) (Ok sent) (stood _ _ e) s = e
seen-of old (new, sends_out out) (Err n) (stood _ _ e) s = absurd s
seen-of old (new, fails m) (Ok sent) (refused _ _ e h) s = absurd s
seen-of old (new, fails m) (Err n) (refused _ _ e h) s = (e, h)
seen-of old (new, asks_for sender d) result o s = elim o [ ]

pub stepped-pruning : (self : Identity) (i : Input) (old : Replica)
    (result : Result (List SentBytes) Fault) (new : Replica) → prunes i ≡ true
    → Stepped self (input_of i) old result new → Seen old new result
stepped-pruning self (taken.Prune height) old result new e t =
    subst (λ (r : Replica). Seen old r result) (sym t.state)
    (seen-of old (step self t.memory (rulings.prune_in height) old) result
    (prune-whole self t.memory height old) t.answer)
stepped-pruning self (taken.Proposal p) old result new e t = absurd (true≢false (sym e))
stepped-pruning self (taken.Block b) old result new e t = absurd (true≢false (sym e))
stepped-pruning self (taken.Vote v) old result new e t = absurd (true≢false (sym e))
stepped-pruning self (taken.NewView n) old result new e t = absurd (true≢false (sym e))
stepped-pruning self (taken.Request r) old result new e t = absurd (true≢false (sym e))
stepped-pruning self (taken.Fetch f) old result new e t = absurd (true≢false (sym e))
stepped-pruning self taken.Timeout old result new e t = absurd (true≢false (sym e))
stepped-pruning self taken.Beat old result new e t = absurd (true≢false (sym e))
stepped-pruning self (taken.OfferedProposal p) old result new e t = absurd (true≢false (sym e))
stepped-pruning self (taken.OfferedBlock b) old result new e t = absurd (true≢false (sym e))
stepped-pruning self (taken.SeenView v) old result new e t = absurd (true≢false (sym e))
stepped-pruning self (taken.Relayed copies) old result new e t = absurd (true≢false (sym e))
stepped-pruning self (taken.Lead block) old result new e t = absurd (true≢false (sym e))
stepped-pruning self (taken.Ask replica block) old result new e t = absurd (true≢false (sym e))

-- ---- an archive

archive-still : (old new : Replica) (steps : List StoredStep) (entries : List Entry)
    → IsArchiveOf old steps entries → new.chronicle ≡ old.chronicle → held_history new ≡ held_history old
    → IsArchiveOf new steps entries
archive-still old new steps entries a e h = record {
  steps_are =
      ap (λ (c : Chronicle). replay (reverse steps) (standing_blocks c)) e ∙ a.steps_are ∙ sym e;
  entries_are = a.entries_are ∙ sym h;
  unpruned = ap was_pruned e ∙ a.unpruned;
}

-- it is that of a replica that holds the same
pub archived-still : {A : Type 0} (archive : Option A) (old new : Replica) (steps : A → List StoredStep)
    (entries : A → List Entry)
    → MatchOption archive (was_pruned old.chronicle ≡ true) (λ x. IsArchiveOf old (steps x) (entries x))
    → new.chronicle ≡ old.chronicle → held_history new ≡ held_history old
    → MatchOption archive (was_pruned new.chronicle ≡ true) (λ x. IsArchiveOf new (steps x) (entries x))
archived-still None old new steps entries p e h = ap was_pruned e ∙ p
archived-still (Some x) old new steps entries a e h = archive-still old new (steps x) (entries x) a e h

-- there is none of a replica that was pruned before
pub archived-none : {A : Type 0} (archive : Option A) (old new : Replica) (steps : A → List StoredStep)
    (entries : A → List Entry) → archive ≡ None
    → MatchOption archive (was_pruned old.chronicle ≡ true) (λ x. IsArchiveOf old (steps x) (entries x))
    → was_pruned new.chronicle ≡ was_pruned old.chronicle
    → MatchOption archive (was_pruned new.chronicle ≡ true) (λ x. IsArchiveOf new (steps x) (entries x))
archived-none None old new steps entries n p e = e ∙ p
archived-none (Some x) old new steps entries n p e = absurd (let k : Some x ≡ None = n in cc)
