-- What an input comes to, for every input: from what was decided to what it gives.
use Rattle.ids.specs.declared.fault.Fault.{Fault}
use Rattle.ids.specs.declared.fault.Fault.TheVariants as fault
use Rattle.std.proofs.Common.{ℕ, ◌≡◌, Bool, false, true, true≢false, List, ◌∷◌, filter, cond, refl, sym, ap}
use Rattle.std.proofs.Common.{◌∙◌, subst, arith, Option, Some, None, Result, Ok, Err, IfOk, OnOk, OnErr}
use Rattle.std.specs.Prelude.{MatchResult}
use Rattle.std.specs.Option.{unwrap_or}
use Rattle.ids.specs.Sizes.{Sizes}
use Rattle.definitions.specs.Bytes.{Bytes}
use Rattle.definitions.specs.Frames.{Command}
use Rattle.definitions.specs.Keyrings.{Keys}
use Rattle.definitions.specs.Trees.{IsTree}
use Rattle.definitions.specs.Chronicles.{Step, Step.took_block, Step.noted, Note.led_from, Chronicle, horizon}
use Rattle.definitions.specs.Chronicles.{window, history, IsLawful, IsSound}
use Rattle.definitions.specs.States.{view, qc_high, is_due, pending, with_request}
use Rattle.definitions.specs.Rulings.{Ruling, Ruling.due, Ruling.missing, Ruling.refusing, conflicts}
use Rattle.definitions.specs.Replicas.{ample, refused_at_once, running, stopped, stops, on_step, on_ruling}
use Rattle.mempool.proofs.Following.{pending-due}
use Rattle.vote_collector.specs.Collecting.{Entry, kept_above}
use Rattle.vote_collector.specs.Following.{IsVotesOf, certified}
use Rattle.vote_collector.specs.Lawful.{LeavesVotes}
use Rattle.vote_collector.proofs.Steps.{followed-else, none-low}
use Rattle.replica.specs.declared.state.High.{High}
use Rattle.replica.specs.declared.change.Growth.{Growth}
use Rattle.replica.specs.declared.change.Growth.TheVariants.{Nothing, Block, Vote, Request, Prune, Lead}
use Rattle.replica.specs.declared.change.Change.{Change}
use Rattle.signed_frames.specs.Outs.{SentBytes}
use Rattle.replica.specs.Kept.{Variables, StateParts, high_of, variables_of, IsStateOf}
use Rattle.replica.specs.Changes.{asked, pended, collected, left_above, votes_after, changed}
use Rattle.replica.specs.Changes.{changed_variables, IsStep}
use Rattle.replica.specs.StepsTo.{halts, IsRefused, Follows, answer, after}
use Rattle.replica.proofs.Waiting.{is_lead, asked-is}

-- ---- what a ruling comes to

-- want of memory, where a step was due
pub no-memory : (keys : Keys) (c : Chronicle) (st : Step) (n : Fault) (s : StateParts) → n ≡ fault.Memory
    → IsStateOf keys c s → Follows keys (due st) c (Err n) s
unfolding on_ruling on_step
no-memory keys c st n s m o = subst (λ (f : Fault). IsRefused keys (due st) c f s) (sym m)
    (record { memory = refused_at_once; state = o; left = refl; answer = refl })

-- a block that isn't in the tree
pub asks : (keys : Keys) (c : Chronicle) (sender : ℕ) (d : Bytes) (s : StateParts) → IsStateOf keys c s
    → Follows keys (missing sender d) c (Err fault.UnknownParent) s
unfolding on_ruling
asks keys c sender d s o = record { memory = ample; state = o; left = refl; answer = refl }

-- an input that is refused
pub refuses : (keys : Keys) (c : Chronicle) (n : Fault) (s : StateParts) → stops n c ≡ halts (horizon c) n
    → IsStateOf keys c s → Follows keys (refusing n) c (Err n) s
unfolding on_ruling
refuses keys c n s h o = record {
  memory = ample;
  state = o;
  left = ap (λ (b : Bool). record { chronicle = c; standing = cond b stopped running }) h;
  answer = refl;
}

-- where a refusal was decided
pub refused : (keys : Keys) (v : Ruling) (c : Chronicle) (n : Fault) (s : StateParts)
    (result : Result Change Fault) → result ≡ Err n → Follows keys v c (Err n) s
    → Follows keys v c (answer result) (after result s)
refused keys v c n s result r f =
    subst (λ (x : Result Change Fault). Follows keys v c (answer x) (after x s)) (sym r) f

memory-is : {A : Type 0} (n : Fault) → ◌≡◌ {A = Result A Fault} (Err n) (Err fault.Memory) → n ≡ fault.Memory
memory-is n e = cc

-- a change that was decided is made, or memory is refused and all is as before
pub committed : (keys : Keys) (v : Ruling) (c : Chronicle) (d : Change) (s new : StateParts)
    (result : Result (List SentBytes) Fault) → Follows keys v c (Ok d.out) (changed d s) → IsStateOf keys c s
    → OnOk result (new ≡ changed d s) → IfOk result (λ out. out ≡ d.out) → OnErr result (new ≡ s)
    → OnErr result (result ≡ Err fault.Memory) → Follows keys v c result new
committed keys v c d s new (Ok out) f o made sent unchanged memory =
    subst (λ (x : StateParts). Follows keys v c (Ok out) x) (sym made)
    (subst (λ (x : List SentBytes). Follows keys v c (Ok x) (changed d s)) (sym sent) f)
committed keys v c d s new (Err n) f o made sent unchanged memory =
    subst (λ (x : StateParts). Follows keys v c (Err n) x) (sym unchanged)
    (subst (λ (x : Ruling). Follows keys x c (Err n) s) (sym f.is_due)
    (no-memory keys c f.step n s (memory-is n memory) o))

-- ---- a step that stands

-- the change that was decided makes what is kept that of one step more
pub stands : (keys : Keys) (c : Chronicle) (st : Step) (d : Change) (s : StateParts)
    → conflicts st c ≡ false → IsSound keys.sizes (st ∷ c) → pended d.growth s.pending ≡ asked st c
    → IsStateOf keys c s → IsStep keys c st s.pace d
    → IsVotesOf keys.sizes (st ∷ c) (votes_after d s.votes.kept)
    → Follows keys (due st) c (Ok d.out) (changed d s)
stands keys c st d s k so p o x votes = record {
  step = st;
  is_due = refl;
  calm = k;
  state = record {
    same = ap (changed_variables d) o.same ∙ x.variables;
    sizes = x.sizes;
    pace = x.pace;
    vote_sizes = o.vote_sizes;
    votes = votes;
    sound = so;
    waits = refl;
  };
  waits = p;
  sent = x.out;
}

-- a vote or a request is added, or all are forgotten
abbrev pub collects : Growth → Bool
collects (Vote b v) = true
collects (Request r) = true
collects Lead = true
collects g = false

quiet : (g : Growth) (kept : List (Bytes × Entry)) (waits : List Command) → collects g ≡ false
    → (collected g kept ≡ kept) × (pended g waits ≡ waits)
quiet (Vote b v) kept waits e = absurd (true≢false e)
quiet (Request r) kept waits e = absurd (true≢false e)
quiet Lead kept waits e = absurd (true≢false e)
quiet Nothing kept waits e = (refl, refl)
quiet (Block n) kept waits e = (refl, refl)
quiet (Prune to) kept waits e = (refl, refl)

-- the collected votes after a step that brings none, by what is raised
left-above-is : (s : Sizes) (st : Step) (c : Chronicle) (kept : List (Bytes × Entry)) (r : Option High)
    → LeavesVotes st → IsLawful s c → IsTree (horizon c) (window c) → IsTree (horizon (st ∷ c)) (window (st ∷ c))
    → IsVotesOf s c kept
    → unwrap_or r (high_of (qc_high s c)) ≡ high_of (qc_high s (st ∷ c))
    → IsVotesOf s (st ∷ c) (left_above r kept)
left-above-is s st c kept None b law old tr is e =
    let h : certified s c ≡ certified s (st ∷ c) = ap (λ (x : High). x.block.height) e in
    subst (IsVotesOf s (st ∷ c)) (none-low s c kept (certified s (st ∷ c)) is (omega (arith, h)))
    (followed-else s c kept st b law old tr is)
left-above-is s st c kept (Some r) b law old tr is e =
    let h : r.block.height ≡ certified s (st ∷ c) = ap (λ (x : High). x.block.height) e in
    subst (λ (n : ℕ). IsVotesOf s (st ∷ c) (kept_above n kept)) (sym h)
    (followed-else s c kept st b law old tr is)

pub votes-else : (keys : Keys) (st : Step) (c : Chronicle) (d : Change) (s : StateParts) → LeavesVotes st
    → collected d.growth s.votes.kept ≡ s.votes.kept → IsLawful keys.sizes c → IsTree (horizon c) (window c)
    → IsTree (horizon (st ∷ c)) (window (st ∷ c))
    → IsVotesOf keys.sizes c s.votes.kept → IsStep keys c st s.pace d
    → IsVotesOf keys.sizes (st ∷ c) (votes_after d s.votes.kept)
votes-else keys st c d s b q law old tr is x =
    subst (λ (k : List (Bytes × Entry)). IsVotesOf keys.sizes (st ∷ c) (left_above d.high k)) (sym q)
    (left-above-is keys.sizes st c s.votes.kept d.high b law old tr is
    (ap (λ (v : Variables). v.high) x.variables))

-- ---- what was decided

-- a change of this kind, or want of memory
pub or-memory : (result : Result Change Fault) (P : Change → Type 0) → IfOk result P
    → OnErr result (result ≡ Err fault.Memory) → MatchResult result P (λ n. n ≡ fault.Memory)
or-memory (Ok d) P made memory = made
or-memory (Err n) P made memory = memory-is n memory

-- the requests that wait, where none came
pub calm : (st : Step) (c : Chronicle) (waits : List Command) → is_lead st ≡ false
    → with_request st (pending c) ≡ pending c → waits ≡ pending c → waits ≡ asked st c
calm st c waits l e w = w ∙ sym (asked-is st c l ∙ ap (filter (is_due (history c))) e ∙ pending-due c)

no-lead : (st : Step) → LeavesVotes st → is_lead st ≡ false
no-lead (noted (led_from b)) h = absurd h
no-lead (took_block a) h = refl
no-lead (noted n) h = refl

-- The change is made, or memory is refused: for a step that brings no vote and no request, and conflicts
-- with nothing.
pub decided : (keys : Keys) (c : Chronicle) (st : Step) (s : StateParts) (result : Result Change Fault)
    (P : Change → Type 0) → IsSound keys.sizes (st ∷ c) → conflicts st c ≡ false
    → with_request st (pending c) ≡ pending c → IsStateOf keys c s → LeavesVotes st
    → ((d : Change) → P d → IsStep keys c st s.pace d × (collects d.growth ≡ false))
    → MatchResult result P (λ n. n ≡ fault.Memory) → Follows keys (due st) c (answer result) (after result s)
decided keys c st s (Ok d) P so k w o b makes m =
    let x = makes d m in
    let stays = quiet d.growth s.votes.kept s.pending x.1 in
    stands keys c st d s k so (stays.1 ∙ calm st c s.pending (no-lead st b) w o.waits) o x.0
    (votes-else keys st c d s b stays.0 o.sound.lawful o.sound.is_tree so.is_tree o.votes x.0)
decided keys c st s (Err n) P so k w o b makes m = no-memory keys c st n s m o

-- ---- where this chronicle stands

-- what is kept, said by the chronicle
abbrev pub kept_at : Keys → Chronicle → StateParts → StateParts
kept_at keys c s = record s {
  variables = variables_of keys c;
  pace = record s.pace { view = view keys.sizes c };
  pending = pending c;
}

-- what holds of it so said holds of it
pub where-kept : (keys : Keys) (c : Chronicle) (s : StateParts) (Q : StateParts → Type 0)
    → IsStateOf keys c s → (IsStateOf keys c (kept_at keys c s) → Q (kept_at keys c s)) → Q s
where-kept keys c s Q o f = subst Q (sym same) (f (subst (IsStateOf keys c) same o))
  where
    same : s ≡ kept_at keys c s
    same = λ i. record s {
      variables = o.same i;
      pace = record s.pace { view = (o.pace.view ∙ ap (λ (z : Sizes). view z c) o.sizes) i };
      pending = o.waits i;
    }
