-- What a request changes is what its step changes.
use Rattle.ids.specs.declared.fault.Fault.{Fault}
use Rattle.ids.specs.declared.fault.Fault.TheVariants as fault
use Rattle.std.proofs.Common.{ℕ, filter, arith, ◌++◌, ◌≡◌, ◌==◌, ◌&&◌, Bool, true, false, List, [], ◌∷◌}
use Rattle.std.proofs.Common.{cond, refl, sym, ap, ◌∙◌, subst, option_to_list, Option, Some, None, Result}
use Rattle.std.proofs.Common.{Ok, Err}
use Rattle.std.specs.Prelude.{MatchResult}
use Rattle.std.proofs.lemmas.Bool.{ltb-true, ne_eqb}
use Rattle.std.specs.List.{list_any}
use Rattle.definitions.specs.Frames.{Command}
use Rattle.definitions.specs.Histories.{History, Answer, last_seq, answer_to}
use Rattle.definitions.specs.Keyrings.{Keys}
use Rattle.definitions.specs.Checks.{identity_of}
use Rattle.definitions.specs.Chronicles.{Step.noted, Note.got_request, Chronicle, history, IsSound}
use Rattle.definitions.specs.States.{raised, is_due, is_same_request, pending, with_request}
use Rattle.definitions.specs.Rulings.{Input.request_in, Ruling, Ruling.due, Ruling.refusing, ruling}
use Rattle.definitions.specs.Rulings.{on_request, conflicts}
use Rattle.definitions.specs.Sendings.{again, sendings, reply_to}
use Rattle.linear_law.proofs.Sends.{answer_to-among}
use Rattle.mempool.specs.Pool.{planned_for}
use Rattle.mempool.proofs.Following.{request-history, follows_request}
use Rattle.pacemaker.proofs.Reached.{paced-still}
use Rattle.replica.specs.declared.change.Change.{Change}
use Rattle.replica.specs.declared.stored.StoredStep.TheVariants.{GotRequest}
use Rattle.replica.specs.declared.change.Growth.TheVariants.{Request}
use Rattle.signed_frames.specs.Outs.{SentBytes}
use Rattle.replica.specs.Steps.{bytes_of, shown}
use Rattle.replica.specs.Kept.{StateParts, variables_of, IsStateOf, AreFit}
use Rattle.replica.specs.Changes.{noting, sent_first, asked, pended, collected, changed, changed_variables}
use Rattle.replica.specs.Changes.{IsStep}
use Rattle.replica.specs.Requests.{is_full, growth_for, IsWaiting, reply_again, again_sent, old_change}
use Rattle.replica.specs.Requests.{IsRequestedIf, IsRequested}
use Rattle.replica.specs.StepsTo.{Follows, StepsTo, answer, after}
use Rattle.replica.proofs.Steps.{refuses, refused, no-memory, stands, votes-else}
use Rattle.definitions.proofs.Sound.{Keeps}
use Rattle.definitions.proofs.Sound.{ruling-sound}
use Rattle.replica.proofs.Stays.{variables-calm}
use Rattle.replica.proofs.Advancing.{sendable-is}

module _ (keys : Keys) (c : Chronicle) (s : StateParts) (r : Command) (o : IsStateOf keys c s) where
  -- the variables after it
  variables-are : variables_of keys (noted (got_request r) ∷ c)
      ≡ record (variables_of keys c) { chronicle = noted (got_request r) ∷ c }
  unfolding raised
  variables-are = variables-calm keys (got_request r) c refl refl refl refl

  -- what waits after it
  asked-is : asked (noted (got_request r)) c ≡ pending (noted (got_request r) ∷ c)
  unfolding pending
  asked-is = ap (λ (h : History). filter (is_due h) (with_request (noted (got_request r)) (pending c)))
      (sym (request-history c r))

  planned-is : (waits : List Command) (b : Bool) → list_any (is_same_request r) waits ≡ b
      → pended (growth_for (cond b None (Some r))) waits ≡ with_request (noted (got_request r)) waits
  planned-is waits true e = sym (ap (λ (t : Bool). cond t waits (waits ++ r ∷ [])) e)
  planned-is waits false e = refl

  -- a step of this growth that sends this
  step-is : (g : Option Command) (out : List SentBytes)
      → out ≡ shown (sent_first (identity_of keys) (noted (got_request r)) c)
      → IsStep keys c (noted (got_request r)) s.pace
      (record (noting s.variables (GotRequest r) out) { growth = growth_for g })
  step-is None out e = record {
    variables =
        (λ i. changed_variables (noting (o.same i) (GotRequest r) out) (variables_of keys c))
        ∙ sym variables-are;
    sizes = o.sizes;
    pace = paced-still (noted (got_request r)) c s.pace tt o.pace;
    out = e;
  }
  step-is (Some x) out e = record {
    variables =
        (λ i. changed_variables (record (noting (o.same i) (GotRequest r) out) { growth = Request x })
        (variables_of keys c)) ∙ sym variables-are;
    sizes = o.sizes;
    pace = paced-still (noted (got_request r)) c s.pace tt o.pace;
    out = e;
  }

  kept-votes : (g : Option Command) → collected (growth_for g) s.votes.kept ≡ s.votes.kept
  kept-votes None = refl
  kept-votes (Some x) = refl

  comes : (g : Option Command) (out : List SentBytes) → on_request r c ≡ due (noted (got_request r))
      → pended (growth_for g) s.pending ≡ asked (noted (got_request r)) c
      → out ≡ shown (sent_first (identity_of keys) (noted (got_request r)) c)
      → let d : Change =
      record (noting s.variables (GotRequest r) out) { growth = growth_for g } in
      Follows keys (due (noted (got_request r))) c (Ok out) (changed d s)
  unfolding conflicts ruling
  comes g out e w t =
      let st = noted (got_request r) in
      let d : Change = record (noting s.variables (GotRequest r) out) { growth = growth_for g } in
      let so : IsSound keys.sizes (st ∷ c) = subst (Keeps (identity_of keys) c) e
      (ruling-sound (identity_of keys) (request_in r) c tt o.sound) in
      let x = step-is g out t in
      stands keys c st d s refl so w o x
      (votes-else keys st c d s tt (kept-votes g) o.sound.lawful o.sound.is_tree so.is_tree o.votes x)

-- ---- by what was executed for its client

reply-again : (keys : Keys) (c : Chronicle) (h : History) (client seq : ℕ) → h ≡ history c
    → IsSound keys.sizes c → AreFit keys.sizes c
    → reply_again keys (answer_to keys.sizes.most_keys client seq h)
    ≡ shown (again (identity_of keys) (answer_to keys.sizes.most_keys client seq (history c)))
reply-again keys c h client seq e so fit =
    ap (λ (x : History). reply_again keys (answer_to keys.sizes.most_keys client seq x)) e
    ∙ by (answer_to keys.sizes.most_keys client seq (history c)) refl
  where
    by : (a : Option Answer) → answer_to keys.sizes.most_keys client seq (history c) ≡ a
        → reply_again keys a ≡ shown (again (identity_of keys) a)
    by None k = refl
    by (Some a) k = ap
        (λ (b : Bool). option_to_list (cond b (Some (bytes_of (reply_to (identity_of keys) a))) None))
        (sendable-is keys c so fit a (answer_to-among keys.sizes.most_keys client seq (history c) a k))

again-sent : (keys : Keys) (c : Chronicle) (h : History) (r : Command) → h ≡ history c
    → IsSound keys.sizes c → AreFit keys.sizes c
    → again_sent keys h r ≡ shown (sent_first (identity_of keys) (noted (got_request r)) c)
unfolding sendings
again-sent keys c h r e so fit =
    (λ i. cond (r.seq == last_seq r.client (e i)) (reply-again keys c h r.client r.seq e so fit i) [])
    ∙ by (r.seq == last_seq r.client (history c))
  where
    by : (b : Bool)
        → cond b (shown (again (identity_of keys) (answer_to keys.sizes.most_keys r.client r.seq (history c)))) []
        ≡ shown (cond b (again (identity_of keys) (answer_to keys.sizes.most_keys r.client r.seq (history c))) [])
    by true = refl
    by false = refl

-- a newer one brings no reply
newer-sent : (keys : Keys) (c : Chronicle) (r : Command) → is_due (history c) r ≡ true
    → [] ≡ shown (sent_first (identity_of keys) (noted (got_request r)) c)
unfolding sendings is_due
newer-sent keys c r e =
    let l = ltb-true (last_seq r.client (history c)) r.seq e in
    ap (λ (b : Bool). shown (cond b (again (identity_of keys) (answer_to keys.sizes.most_keys r.client r.seq (history c))) []))
    (sym (ne_eqb r.seq (last_seq r.client (history c)) (λ k. absurd (omega (arith, k, l)))))

-- what a request is ruled
ruled-by : (c : Chronicle) (r : Command) (a b : Bool) → is_due (history c) r ≡ a → is_full r (pending c) ≡ b
    → on_request r c ≡ cond (a && b) (refusing fault.PoolFull) (due (noted (got_request r)))
unfolding on_request
ruled-by c r a b e f = λ i. cond (e i && f i) (refusing fault.PoolFull) (due (noted (got_request r)))

module _ (keys : Keys) (c : Chronicle) (s : StateParts) (h : History) (r : Command) (o : IsStateOf keys c s)
    (before : h ≡ history c) (fit : AreFit keys.sizes c) where
  Comes : Result Change Fault → Ruling → Type 0
  Comes result v = Follows keys v c (answer result) (after result s)

  -- it may wait
  waits-by : (result : Result Change Fault) (b : Bool) → is_due h r ≡ true → is_full r s.pending ≡ b
      → IsWaiting s r result b → Comes result (on_request r c)
  unfolding Comes
  waits-by result true d f w =
      let ruled = ruled-by c r true true (ap (λ (x : History). is_due x r) (sym before) ∙ d)
      (ap (is_full r) (sym o.waits) ∙ f) in
      subst (Comes result) (sym ruled)
      (refused keys _ c fault.PoolFull s result w (refuses keys c fault.PoolFull s refl o))
  waits-by (Ok d) false e f w =
      let due_now = ap (λ (x : History). is_due x r) (sym before) ∙ e in
      let ruled = ruled-by c r true false due_now (ap (is_full r) (sym o.waits) ∙ f) in
      let waits =
      planned-is keys c s r o s.pending (list_any (is_same_request r) s.pending) refl
      ∙ ap (with_request (noted (got_request r))) o.waits
      ∙ sym ((follows_request c r).due due_now) ∙ sym (asked-is keys c s r o) in
      subst (Comes (Ok d)) (sym ruled) (subst (λ (x : Change). Comes (Ok x) (due (noted (got_request r))))
      (sym w) (comes keys c s r o (planned_for r s.pending) [] ruled waits (newer-sent keys c r due_now)))
  waits-by (Err n) false e f w =
      let ruled = ruled-by c r true false (ap (λ (x : History). is_due x r) (sym before) ∙ e)
      (ap (is_full r) (sym o.waits) ∙ f) in
      subst (Comes (Err n)) (sym ruled) (no-memory keys c (noted (got_request r)) n s w o)

  late-ruled : is_due h r ≡ false → on_request r c ≡ due (noted (got_request r))
  late-ruled e =
      ruled-by c r false (is_full r (pending c)) (ap (λ (x : History). is_due x r) (sym before) ∙ e) refl

  -- or comes late
  comes-late : (result : Result Change Fault) → is_due h r ≡ false
      → MatchResult result (λ d. d ≡ old_change keys s h r) (λ n. n ≡ fault.Memory)
      → Comes result (on_request r c)
  unfolding Comes
  comes-late (Ok d) e w =
      let late = ap (λ (x : History). is_due x r) (sym before) ∙ e in
      let waits = o.waits ∙ sym ((follows_request c r).late late) ∙ sym (asked-is keys c s r o) in
      subst (Comes (Ok d)) (sym (late-ruled e)) (subst
      (λ (x : Change). Comes (Ok x) (due (noted (got_request r)))) (sym w)
      (comes keys c s r o None (again_sent keys h r) (late-ruled e) waits
      (again-sent keys c h r before o.sound fit)))
  comes-late (Err n) e w =
      subst (Comes (Err n)) (sym (late-ruled e)) (no-memory keys c (noted (got_request r)) n s w o)

  pub request-decided : (result : Result Change Fault) → IsRequested keys s h r result
      → StepsTo keys (request_in r) c (answer result) (after result s)
  unfolding ruling Comes
  request-decided result w = by (is_due h r) refl w
    where
      by : (b : Bool) → is_due h r ≡ b → IsRequestedIf keys s h r result b → Comes result (on_request r c)
      by true e w = waits-by result (is_full r s.pending) e refl w
      by false e w = comes-late result e w
