-- What an input comes to with what is executed is the definitions' step.
use Rattle.ids.specs.declared.limits.TheConstants.{MOST_TEXT}
use Rattle.ids.specs.declared.fault.Fault.{Fault}
use Rattle.ids.specs.declared.fault.Fault.TheVariants as fault
use Rattle.std.proofs.Common.{ℕ, ◌≡◌, ◌+◌, ◌-◌, ◌<◌, ◌≤◌, ◌&&◌, ◌++◌, Bool, true, false, List, [], ◌∷◌}
use Rattle.std.proofs.Common.{length, map, cond, refl, sym, ap, ◌∙◌, subst, arith, min, option_to_list}
use Rattle.std.proofs.Common.{Some, None, Ok, Err, inl, inr}
use Rattle.std.proofs.lemmas.Bool.{lt-ltb, le-leb}
use Rattle.std.proofs.lemmas.List.{map-append, append-nil}
use Rattle.ids.specs.Sizes.{Sizes}
use Rattle.definitions.specs.Lists.{beginning, Among}
use Rattle.definitions.specs.Frames.{Command, Core, Certificate}
use Rattle.definitions.specs.States.{pending}
use Rattle.mempool.specs.Pool.{left_after}
use Rattle.mempool.proofs.Following.{pending-due}
use Rattle.definitions.specs.FrameLimits.{IsCore}
use Rattle.definitions.specs.Branches.{Branch}
use Rattle.definitions.specs.Digests.{digest_of}
use Rattle.definitions.specs.Chronicles.{Note, Step, Step.took_block, Step.noted, Chronicle, taken_blocks}
use Rattle.definitions.specs.Chronicles.{stored_blocks, horizon, window}
use Rattle.definitions.specs.Chronicles.{tree, decided, executed, history, IsSound}
use Rattle.definitions.specs.Histories.{History, history_of, Answer, answers}
use Rattle.definitions.specs.Keyrings.{Keys}
use Rattle.definitions.specs.Checks.{Identity, Findings, identity_of}
use Rattle.definitions.specs.Rulings.{Input, Input.proposal_in, Input.block_in, Input.vote_in}
use Rattle.definitions.specs.Rulings.{Input.new_view_in, Input.request_in, Input.fetch_in, Input.timeout_in}
use Rattle.definitions.specs.Rulings.{Input.beat_in, Input.prune_in, Input.offered_in, Input.relayed_in}
use Rattle.definitions.specs.Rulings.{Input.lead_in, Input.ask_in, Input.view_in, Ruling, Ruling.due, ruling, conflicts}
use Rattle.definitions.specs.Sendings.{reply_to, new_replies, sendings}
use Rattle.definitions.specs.Replicas.{ample, refused_after, running, stopped, cut_short, stopped_at}
use Rattle.definitions.specs.Replicas.{Replica, Reaction, sends_out, fails, held_history, held_pending}
use Rattle.definitions.specs.Replicas.{whole_blocks, executes, on_step, on_ruling}
use Rattle.definitions.proofs.Lists.{beginning-whole, IsBeginning-beginning, Among-before, Among-reverse}
use Rattle.definitions.proofs.Branches.{length-extends}
use Rattle.definitions.proofs.Horizons.{executed-window, horizon-before}
use Rattle.linear_law.proofs.Replies.{executed-grows, history-grows}
use Rattle.linear_law.proofs.FitAnswers.{answers-fit}
use Rattle.linear_law.proofs.Inputs.{Carries, FromInput, AllStanding, ruling-from}
use Rattle.linear_law.proofs.Rows.{taken-known, step-known}
use Rattle.executor.specs.State.{new_answers}
use Rattle.signed_frames.specs.Outs.{SentBytes}
use Rattle.replica.specs.Steps.{bytes_of, shown, Shows}
use Rattle.replica.specs.Kept.{Variables, StateParts, tree_of, waiting, IsStateOf, AreFit, AreStored}
use Rattle.replica.specs.Kept.{AreSized}
use Rattle.replica.specs.Changes.{asked, sent_first}
use Rattle.replica.specs.Inputs.{IsFitInput}
use Rattle.replica.specs.Execution.{history_above, work, stretch, IsCutShort, is_sendable, told}
use Rattle.replica.specs.StepsTo.{halts, Stands, IsRefused}
use Rattle.replica.specs.Advances.{going, IsWholeOf, Advances}
use Rattle.replica.specs.declared.standing.Taken.TheVariants.{Sends, Refused, CutShort}
use Rattle.replica.proofs.Keeping.{stores-on}
use Rattle.replica.proofs.Sized.{sized-on}
use Rattle.replica.proofs.Waiting.{waits-on, held-waits}
use Rattle.replica.proofs.Executing.{new-are, answers-more, above-appended, tree_at, history-is, IsBetween}
use Rattle.replica.proofs.Executing.{cut-is}

-- ---- the cores of the tree's blocks

fit-carried : (s : Sizes) (i : Input) (core : Core) (q : Certificate) (f : Findings) → Carries i core q f
    → IsFitInput s i → IsCore s core
fit-carried s (proposal_in w k p g) core q f c h = subst (IsCore s) c.0 h.0
fit-carried s (block_in sender k p g) core q f c h = subst (IsCore s) c.0 h.0
fit-carried s (vote_in d b) core q f c h = absurd c
fit-carried s (new_view_in w sender k) core q f c h = absurd c
fit-carried s (request_in r) core q f c h = absurd c
fit-carried s (fetch_in sender d) core q f c h = absurd c
fit-carried s timeout_in core q f c h = absurd c
fit-carried s beat_in core q f c h = absurd c
fit-carried s (prune_in height) core q f c h = absurd c
fit-carried s (offered_in w sender k p g) core q f c h = subst (IsCore s) c.0 h.0
fit-carried s (relayed_in senders k p g) core q f c h = subst (IsCore s) c.0 h.0
fit-carried s (lead_in d) core q f c h = absurd c
fit-carried s (ask_in replica d) core q f c h = absurd c
fit-carried s (view_in w sender) core q f c h = absurd c

fit-from : (self : Identity) (i : Input) (st : Step) (c : Chronicle) → IsFitInput self.sizes i → FromInput self c i st
    → IsSound self.sizes (st ∷ c) → AreFit self.sizes c → AreFit self.sizes (st ∷ c)
unfolding tree stored_blocks taken_blocks
fit-from self i (took_block a) c h from so fit x m =
    let s = self.sizes in
    step-known (IsCore s) a c a.new refl
    (λ n. taken-known (IsCore s) s a c (so.lawful.0.1 n) fit
    (subst (IsCore s) (sym (from.4.core_is n)) (fit-carried s i from.0 from.1 from.2 from.3 h)))
    fit x m
fit-from self i (noted n) c h from so fit x m = fit x m

fit-step : (keys : Keys) (i : Input) (st : Step) (c : Chronicle) → ruling (identity_of keys) i c ≡ due st
    → IsFitInput keys.sizes i → IsSound keys.sizes (st ∷ c) → AreFit keys.sizes c
    → AreFit keys.sizes (st ∷ c)
fit-step keys i st c e h so fit =
    fit-from (identity_of keys) i st c h
    (subst (AllStanding (FromInput (identity_of keys) c i)) e (ruling-from (identity_of keys) i c)) so fit

-- ---- the replies

pub sendable-is : (keys : Keys) (c : Chronicle) → IsSound keys.sizes c → AreFit keys.sizes c → (a : Answer)
    → Among a (answers keys.sizes.most_keys (history c)) → is_sendable keys.sizes a ≡ true
sendable-is keys c so fit a m =
    let f = answers-fit (IsCore keys.sizes) keys.sizes (λ k known. inr known) c so fit a m in
    let client = lt-ltb a.client keys.sizes.clients f.client in
    let text = le-leb (length a.text) MOST_TEXT f.text in
    λ i. client i && text i

told-all : (keys : Keys) (xs : List Answer) → ((a : Answer) → Among a xs → is_sendable keys.sizes a ≡ true)
    → told keys xs ≡ shown (map (reply_to (identity_of keys)) xs)
unfolding told
told-all keys [] h = refl
told-all keys (a ∷ xs) h =
    λ i. option_to_list (cond (h a (inl refl) i) (Some (bytes_of (reply_to (identity_of keys) a))) None)
    ++ told-all keys xs (λ x m. h x (inr m)) i

history-noted : (n : Note) (c : Chronicle) → history (noted n ∷ c) ≡ history c
unfolding history executed decided taken_blocks
history-noted n c = refl

-- what is sent first, and then the replies
sent-whole : (keys : Keys) (st : Step) (c : Chronicle) → conflicts st c ≡ false
    → IsSound keys.sizes (st ∷ c) → AreFit keys.sizes (st ∷ c)
    → shown (sent_first (identity_of keys) st c) ++ told keys (new_answers keys.sizes.most_keys (history c) (history (st ∷ c)))
    ≡ shown (sendings (identity_of keys) st c)
unfolding sendings new_replies told
sent-whole keys (noted n) c k so fit =
    ap (λ (l : List Answer). shown (sendings (identity_of keys) (noted n) c) ++ told keys l)
    (new-are keys.sizes.most_keys (history c) (history (noted n ∷ c)) [] (ap (answers keys.sizes.most_keys) (history-noted n c)))
    ∙ append-nil (shown (sendings (identity_of keys) (noted n) c))
sent-whole keys (took_block a) c k so fit =
    let self = identity_of keys in
    let st = took_block a in
    let g = history-grows st c k in
    let z = answers-more keys.sizes.most_keys g.0 (history c) in
    let same : answers keys.sizes.most_keys (history (st ∷ c)) ≡ z.0 ++ answers keys.sizes.most_keys (history c) =
    ap (answers keys.sizes.most_keys) (sym g.1) ∙ z.1 in
    let new = new-are keys.sizes.most_keys (history c) (history (st ∷ c)) z.0 same in
    let among : (x : Answer) → Among x (new_answers keys.sizes.most_keys (history c) (history (st ∷ c)))
    → Among x (answers keys.sizes.most_keys (history (st ∷ c))) =
    λ x m. subst (Among x) (sym same)
    (Among-before x z.0 (answers keys.sizes.most_keys (history c)) (Among-reverse z.0 x (subst (Among x) new m))) in
    ap (λ (l : List SentBytes). shown (sent_first self st c) ++ l)
    (told-all keys (new_answers keys.sizes.most_keys (history c) (history (st ∷ c)))
    (λ x m. sendable-is keys (st ∷ c) so fit x (among x m)))
    ∙ sym (map-append bytes_of (sent_first self st c) (new_replies self st c))

-- ---- the step

-- what is kept of a replica that goes on
pub state-going : (keys : Keys) (c : Chronicle) (s : StateParts) (h : History) → IsWholeOf keys (going c) s h
    → IsStateOf keys c s
unfolding held_pending
state-going keys c s h o = subst (λ (l : List Command). IsStateOf keys c (waiting l s)) (sym o.waits) o.state

pub history-going : (keys : Keys) (c : Chronicle) (s : StateParts) (h : History)
    → IsWholeOf keys (going c) s h
    → h ≡ history c
unfolding held_history
history-going keys c s h o = o.history

-- the last executed block before and after a step
module _ (keys : Keys) (st : Step) (c : Chronicle) (calm : conflicts st c ≡ false) (s : StateParts)
    (is : IsStateOf keys (st ∷ c) s) where
  top : Branch
  top = executed (st ∷ c)

  top-in : Among top (window (st ∷ c))
  unfolding top
  top-in = executed-window keys.sizes (st ∷ c) is.sound.lawful

  low-in : length (executed c) ≤ length top
  unfolding top
  low-in = length-extends top (executed c) (executed-grows st c calm)

  begins : beginning (length (executed c)) top ≡ executed c
  unfolding top
  begins = IsBeginning-beginning (executed c) top (executed-grows st c calm)

  -- the history up to the last decided block
  history-up : (h new : History) → h ≡ history c
      → new
      ≡ history_above s.variables.rules.executed.digest (tree_of s.variables) (length (executed c))
      (s.variables.rules.executed.height - length (executed c)) h → new ≡ history (st ∷ c)
  unfolding top history
  history-up h new e n =
      let low = low-in in
      let whole : length (executed c) + (length top - length (executed c)) ≡ length top =
      omega (arith, low) in
      n
      ∙ (λ i. history_above (is.same i).rules.executed.digest (tree_of (is.same i)) (length (executed c))
      ((is.same i).rules.executed.height - length (executed c)) (e i))
      ∙ ap (λ (b : Branch). history_above (digest_of top) (tree_at (st ∷ c)) (length (executed c))
      (length top - length (executed c)) (history_of b)) (sym begins)
      ∙ history-is keys.sizes (st ∷ c) is.sound top top-in (length (executed c))
      (length top - length (executed c)) (horizon-before st c) (omega (arith, whole))
      ∙ ap (λ (n : ℕ). history_of (beginning n top)) whole ∙ ap history_of (beginning-whole top)

  -- what waits after it
  waits-up : (waits left : List Command) → waits ≡ asked st c
      → left
      ≡ left_after (history_above s.variables.rules.executed.digest (tree_of s.variables)
      (length (executed c)) (s.variables.rules.executed.height - length (executed c)) []) waits
      → left ≡ pending (st ∷ c)
  waits-up waits left w n =
      let v = s.variables in
      let new = history_above v.rules.executed.digest (tree_of v) (length (executed c))
      (v.rules.executed.height - length (executed c)) [] in
      let all = history-up (history c) _ refl refl in
      let goes : history (st ∷ c) ≡ new ++ history c =
      sym all
      ∙ above-appended v.rules.executed.digest (tree_of v) (length (executed c))
      (v.rules.executed.height - length (executed c)) (history c) in
      n ∙ ap (left_after new) w ∙ sym (waits-on st c new goes)

  -- or a part of it
  history-part : (h new : History) (waits left : List Command) → h ≡ history c
      → IsCutShort (stretch s.variables.rules.executed.digest (tree_of s.variables) (length (executed c))
      s.variables.rules.executed.height) (work h waits) (work new left)
      → IsBetween (st ∷ c) top (length (executed c)) new waits left
  unfolding top history
  history-part h new waits left e k =
      let cut = subst (λ (b : History). IsCutShort (stretch (digest_of top) (tree_at (st ∷ c))
      (length (executed c)) (length top)) (work b waits) (work new left)) (e ∙ ap history_of (sym begins))
      (subst (λ (v : Variables). IsCutShort (stretch v.rules.executed.digest (tree_of v)
      (length (executed c)) v.rules.executed.height) (work h waits) (work new left)) is.same k) in
      cut-is keys.sizes (st ∷ c) is.sound top top-in (length (executed c)) new waits left
      (horizon-before st c)
      low-in cut

  low-history : history_of (beginning (length (executed c)) top) ≡ history c
  unfolding history
  low-history = ap history_of begins

  top-history : history_of top ≡ history (st ∷ c)
  unfolding top history
  top-history = refl

  top-executed : top ≡ executed (st ∷ c)
  unfolding top
  top-executed = refl

-- a step that executes brings no request
asked-executing : (st : Step) (c : Chronicle) → length (history c) < length (history (st ∷ c))
    → asked st c ≡ pending c
asked-executing (took_block a) c l = pending-due c
asked-executing (noted n) c l =
    absurd (let e = ap (λ (h : History). length h) (history-noted n c) in omega (arith, e, l))

module _ (keys : Keys) (i : Input) (c : Chronicle) (h : History) (before : h ≡ history c)
    (fit : AreFit keys.sizes c) (well : AreStored c) (sized : AreSized keys.sizes c)
    (frame : IsFitInput keys.sizes i) where
  -- what was decided is executed
  pub sends-all : (out more : List SentBytes) (s after : StateParts) (new : History)
      → Stands keys (ruling (identity_of keys) i c) c out s
      → new
      ≡ history_above s.variables.rules.executed.digest (tree_of s.variables) (length (executed c))
      (s.variables.rules.executed.height - length (executed c)) h
      → after
      ≡ waiting (left_after (history_above s.variables.rules.executed.digest (tree_of s.variables)
      (length (executed c)) (s.variables.rules.executed.height - length (executed c)) []) s.pending)
      s
      → more ≡ out ++ told keys (new_answers keys.sizes.most_keys h new) → Advances keys i c (Sends more) after new
  unfolding on_ruling on_step held_history held_pending
  sends-all out more s after new t n a o =
      let self = identity_of keys in
      let st = t.step in
      let fits = fit-step keys i st c t.is_due frame t.state.sound fit in
      let is = history-up keys st c t.calm (waiting (pending (st ∷ c)) s) t.state h new before n in
      let left = waits-up keys st c t.calm (waiting (pending (st ∷ c)) s) t.state s.pending after.pending
      t.waits (ap (λ (k : StateParts). k.pending) a) in
      let both : Bool → Replica × Reaction =
      λ b. cond b (stopped_at c, fails fault.Conflict)
      (record { chronicle = st ∷ c; standing = running }, sends_out (sendings self st c)) in
      let done : on_ruling self ample (ruling self i c) c ≡ both false =
      ap (λ (v : Ruling). on_ruling self ample v c) t.is_due ∙ ap both t.calm in
      record {
        memory = ample;
        replica = record { chronicle = st ∷ c; standing = running };
        replica_is = ap (λ (r : Replica × Reaction). r.0) done;
        whole = record {
          state = subst
              (λ (k : StateParts). IsStateOf keys (st ∷ c) (waiting (pending (st ∷ c)) k)) (sym a) t.state;
          waits = left;
          history = is;
          fit = fits;
          stored = stores-on self i st c t.is_due frame sized well;
          sized = sized-on self i st c t.is_due frame sized;
        };
        standing = refl;
        answer = subst (λ (r : Replica × Reaction). Shows r.1 (Ok more)) (sym done)
            (o ∙ (λ j. t.sent j ++ told keys (new_answers keys.sizes.most_keys (before j) (is j)))
            ∙ sent-whole keys st c t.calm t.state.sound fits);
      }

  -- memory was refused in between
  pub stops-short : (out : List SentBytes) (s after : StateParts) (new : History)
      → Stands keys (ruling (identity_of keys) i c) c out s → after ≡ waiting after.pending s
      → IsCutShort (stretch s.variables.rules.executed.digest (tree_of s.variables) (length (executed c))
      s.variables.rules.executed.height) (work h s.pending) (work new after.pending)
      → Advances keys i c CutShort after new
  unfolding on_ruling on_step executes held_history
  stops-short out s after new t a k =
      let self = identity_of keys in
      let st = t.step in
      let is = t.state in
      let kept = waiting (pending (st ∷ c)) s in
      let b = history-part keys st c t.calm kept is h new s.pending after.pending before k in
      let old = low-history keys st c t.calm kept is in
      let full = top-history keys st c t.calm kept is in
      let more = length new - length (history c) in
      let low = subst (λ (x : History). length x ≤ length new) old b.low in
      let high = subst (λ (x : History). length new ≤ length x) full b.high in
      let some = subst (λ (x : History). length x < length (history (st ∷ c))) old
      (subst (λ (x : History). length
      (history_of (beginning (length (executed c)) (top keys st c t.calm kept is))) < length x)
      full b.some) in
      let held : min (length (history c) + more) (length (history (st ∷ c))) ≡ length new =
      omega (arith, low, high) in
      let cut : Replica × Reaction = (
        record {
          chronicle = st ∷ c;
          standing = cut_short (min (length (history c) + more) (length (history (st ∷ c))));
        },
        fails fault.Memory,
      ) in
      let by : Bool → Bool → Replica × Reaction =
      λ x y. cond x (stopped_at c, fails fault.Conflict) (cond y cut (stopped_at c, fails fault.Memory)) in
      let executing : executes st c ≡ true = lt-ltb (length (history c)) (length (history (st ∷ c))) some in
      let done : on_ruling self (refused_after more) (ruling self i c) c ≡ cut =
      ap (λ (v : Ruling). on_ruling self (refused_after more) v c) t.is_due
      ∙ (λ j. by (t.calm j) (executing j)) in
      let whole : history_of (whole_blocks (length new) (executed (st ∷ c))) ≡ b.new ++ history c =
      ap (λ (x : Branch). history_of (whole_blocks (length new) x))
      (sym (top-executed keys st c t.calm kept is)) ∙ b.whole ∙ ap (λ (x : History). b.new ++ x) old in
      record {
        memory = refused_after more;
        replica = record { chronicle = st ∷ c; standing = cut_short (length new) };
        replica_is =
            ap (λ (r : Replica × Reaction). r.0) done
            ∙ ap (λ (n : ℕ). record { chronicle = st ∷ c; standing = cut_short n }) held;
        whole = record {
          state =
              subst (λ (x : StateParts). IsStateOf keys (st ∷ c) (waiting (pending (st ∷ c)) x)) (sym a)
              t.state;
          waits =
              b.left_are ∙ ap (left_after b.new) (t.waits ∙ asked-executing st c some)
              ∙ sym (held-waits st c (length new) b.new whole);
          history = b.cut ∙ ap (beginning (length new)) full;
          fit = fit-step keys i st c t.is_due frame t.state.sound fit;
          stored = stores-on self i st c t.is_due frame sized well;
          sized = sized-on self i st c t.is_due frame sized;
        };
        standing = refl;
        answer = subst (λ (r : Replica × Reaction). Shows r.1 (Err fault.Memory)) (sym done) refl;
      }

  held-all : (b : Bool)
      → history c ≡ held_history (record { chronicle = c; standing = cond b stopped running })
  unfolding held_history
  held-all true = refl
  held-all false = refl

  waits-all : (b : Bool)
      → pending c ≡ held_pending (record { chronicle = c; standing = cond b stopped running })
  unfolding held_pending
  waits-all true = refl
  waits-all false = refl

  -- nothing changed
  pub refuses : (n : Fault) (s : StateParts) → IsRefused keys (ruling (identity_of keys) i c) c n s
      → Advances keys i c (Refused n) s h
  refuses n s r = record {
    memory = r.memory;
    replica = record { chronicle = c; standing = cond (halts (horizon c) n) stopped running };
    replica_is = r.left;
    whole = record {
      state = subst (λ (l : List Command). IsStateOf keys c (waiting l s)) r.state.waits r.state;
      waits = r.state.waits ∙ waits-all (halts (horizon c) n);
      history = before ∙ held-all (halts (horizon c) n);
      fit = fit;
      stored = well;
      sized = sized;
    };
    standing = ap (λ (v : Variables). cond (halts v.horizon n) stopped running) (sym r.state.same);
    answer = r.answer;
  }
