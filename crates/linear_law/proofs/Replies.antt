-- Histories only grow, and a member's replies are those of its history.
use Rattle.definitions.proofs.Histories.{history_of-grows}
use Rattle.definitions.proofs.Lists.{length-added}
use Rattle.std.proofs.Common.{ℕ, ◌≡◌, ◌+◌, ◌<◌, ◌≤◌, ◌&&◌, not, Bool, true, false, List, [], ◌∷◌, ◌++◌}
use Rattle.std.proofs.Common.{length, cond, refl, sym, ap, subst, ◌∙◌, arith, inl, inr, true≢false, ltb}
use Rattle.std.proofs.Common.{min}
use Rattle.std.proofs.lemmas.Bool.{cond_both, and_cases, not-false, ltb-true, ltb-false}
use Rattle.definitions.proofs.Branches.{extends-true, length-extends}
use Rattle.definitions.proofs.Sound.{Outcome, Outcome.unchanged, Outcome.refused, Outcome.lacks}
use Rattle.definitions.proofs.Sound.{Outcome.conflict, Outcome.stood, Outcome.cut}
use Rattle.definitions.specs.Lists.{beginning, IsBeginning, Among}
use Rattle.definitions.specs.Frames.{Frame}
use Rattle.definitions.specs.Branches.{Branch, just3, Extends, extends, highest}
use Rattle.definitions.specs.Bytes.{Bytes}
use Rattle.definitions.specs.Histories.{History, Answer, answers, is_fresh}
use Rattle.definitions.specs.Chronicles.{Admitted, Step, Step.took_block, Step.noted, Chronicle, taken_blocks}
use Rattle.definitions.specs.Chronicles.{decided, decided_by, decides, executed, history}
use Rattle.definitions.specs.Checks.{Identity}
use Rattle.definitions.specs.States.{view}
use Rattle.definitions.specs.Rulings.{conflicts, Ruling}
use Rattle.definitions.specs.Sendings.{Sending, reply_to, vote_frame, block_frame, new_view_frame}
use Rattle.definitions.specs.Sendings.{proposal_frame}
use Rattle.definitions.specs.Replicas.{Replica, Standing, Standing.running, Standing.stopped}
use Rattle.definitions.specs.Replicas.{Standing.cut_short, held_history, Reaction}
use Rattle.definitions.specs.Frames as frame
use Rattle.linear_law.proofs.Sends.{Sends, Sends.its_vote, Sends.new_reply, Sends.old_reply, Sends.its_view}
use Rattle.linear_law.proofs.Sends.{Sends.its_block, Sends.its_proposal}

-- ---- histories grow

longer-extends : (a : Admitted) (x e : Branch) → (not (extends x e) && not (extends e x)) ≡ false
    → length e < length x → Extends x e
longer-extends a x e h l =
    elim (and_cases _ _ h) [
      | inl k ↦ extends-true x e (not-false _ k)
      | inr k ↦ absurd (let m = length-extends e x (extends-true e x (not-false _ k)) in omega (arith, m, l))
    ]

decided-extends : (a : Admitted) (l : List Branch) (t : Bool) → decides a.branch ≡ t
    → (decides a.branch &&
    (not (extends (just3 a.branch) (highest l)) && not (extends (highest l) (just3 a.branch)))) ≡ false
    → Extends (highest (cond t (just3 a.branch ∷ l) l)) (highest l)
unfolding highest
decided-extends a l true e h =
    cond_both (ltb (length (highest l)) (length (just3 a.branch))) (just3 a.branch) (highest l)
    (λ (x : Branch). Extends x (highest l))
    (λ k. longer-extends a (just3 a.branch) (highest l)
    (elim (and_cases _ _ h) [ inl n ↦ absurd (true≢false (sym e ∙ n)) | inr n ↦ n ]) (ltb-true _ _ k))
    (λ k. ([], refl))
decided-extends a l false e h = ([], refl)

cond-append : {A : Type 0} (t : Bool) (x : A) (xs ys : List A)
    → cond t (x ∷ xs) xs ++ ys ≡ cond t (x ∷ (xs ++ ys)) (xs ++ ys)
cond-append true x xs ys = refl
cond-append false x xs ys = refl

executed-step : (a : Admitted) (c : List Admitted) (t : Bool) → a.new ≡ t
    → (a.new && (decides a.branch
    && (not (extends (just3 a.branch) (highest (decided_by c ++ [] ∷ []))) && not
    (extends (highest (decided_by c ++ [] ∷ [])) (just3 a.branch))))) ≡ false
    → Extends (highest (decided_by (cond t (a ∷ c) c) ++ [] ∷ [])) (highest (decided_by c ++ [] ∷ []))
unfolding decided_by
executed-step a c true e h =
    subst (λ (l : List Branch). Extends (highest l) (highest (decided_by c ++ [] ∷ [])))
    (sym (cond-append (decides a.branch) (just3 a.branch) (decided_by c) ([] ∷ [])))
    (decided-extends a (decided_by c ++ [] ∷ []) (decides a.branch) refl
    (elim (and_cases _ _ h) [ inl n ↦ absurd (true≢false (sym e ∙ n)) | inr n ↦ n ]))
executed-step a c false e h = ([], refl)

pub executed-grows : (st : Step) (c : Chronicle) → conflicts st c ≡ false
    → Extends (executed (st ∷ c)) (executed c)
unfolding conflicts executed decided taken_blocks
executed-grows (took_block a) c h = executed-step a (taken_blocks c) a.new refl h
executed-grows (noted n) c h = ([], refl)

pub history-grows : (st : Step) (c : Chronicle) → conflicts st c ≡ false
    → IsBeginning (history c) (history (st ∷ c))
unfolding history
history-grows st c h = history_of-grows _ _ (executed-grows st c h)

longer-step : {A : Type 0} (a : List A) (k : ℕ) (x : A) (older : List A)
    → (IsBeginning a older → IsBeginning a (beginning k older)) → length a ≤ k → k ≤ length older
    → IsBeginning a (x ∷ older) → IsBeginning a (beginning k older)
longer-step {A} a k x older rest l s ([], e) =
    absurd (let m = ap (λ (z : List A). length z) e in omega (arith, m, s, l))
longer-step {A} a k x older rest l s (y ∷ added, e) = rest (added, tail e)
  where
    tail : y ∷ (added ++ a) ≡ x ∷ older → added ++ a ≡ older
    tail h = cc

pub beginning-longer : {A : Type 0} (a : List A) (k : ℕ) (h : List A) → IsBeginning a h → length a ≤ k
    → IsBeginning a (beginning k h)
unfolding beginning
beginning-longer a k [] b l = b
beginning-longer {A} a k (x ∷ older) b l =
    cond_both (ltb (length older) k) (x ∷ older) (beginning k older) (λ (h : List A). IsBeginning a h)
    (λ e. b)
    (λ e. longer-step a k x older (λ r. beginning-longer a k older r l) l (ltb-false _ _ e) b)

-- ---- a longer history has the same answers and more

answers-step : (older : List Answer) (x : Answer) (t : Bool) (new : Answer)
    → Among x older → Among x (cond t (new ∷ older) older)
answers-step older x true new m = inr m
answers-step older x false new m = m

pub answers-grow : (most_keys : ℕ) (old new : History) → IsBeginning old new → (x : Answer)
    → Among x (answers most_keys old) → Among x (answers most_keys new)
unfolding answers
answers-grow most_keys old new ([], e) x m = subst (λ (h : History). Among x (answers most_keys h)) e m
answers-grow most_keys old [] (y ∷ added, e) x m = absurd (nil (sym e))
  where
    nil : [] ≡ y ∷ (added ++ old) → ⊥
    nil k = cc
answers-grow most_keys old (z ∷ new) (y ∷ added, e) x m =
    answers-step (answers most_keys new) x (is_fresh z new) _
    (answers-grow most_keys old new (added, (cc)) x m)

-- ---- what a member replies

abbrev pub answer_at : ℕ → ℕ → ℕ → Bytes → Answer
answer_at client seq place text = record { client = client; seq = seq; place = place; text = text }

abbrev pub ReplyStands : ℕ → History → Sending → Type 0
ReplyStands most_keys h o =
    (replica client seq place : ℕ) (text t : Bytes) → o.1 ≡ frame.reply replica client seq place text t
    → Among (answer_at client seq place text) (answers most_keys h)

own-reply : (self : Identity) (a : Answer) (h : History) → Among a (answers self.sizes.most_keys h)
    → (o : Sending) → o ≡ reply_to self a → ReplyStands self.sizes.most_keys h o
unfolding reply_to
own-reply self a h m o e replica client seq place text t k =
    subst (λ (x : Answer). Among x (answers self.sizes.most_keys h)) (same (sym (ap (λ (x : Sending). x.1) e) ∙ k)) m
  where
    same : (reply_to self a).1 ≡ frame.reply replica client seq place text t
        → a ≡ record { client = client; seq = seq; place = place; text = text }
    same q =
        let c : a.client ≡ client =
        cc in let s : a.seq ≡ seq =
        cc in let p : a.place ≡ place =
        cc in let x : a.text ≡ text =
        cc in λ i. record { client = c i; seq = s i; place = p i; text = x i }

pub sends-reply : (self : Identity) (st : Step) (c : Chronicle) → conflicts st c ≡ false → (o : Sending)
    → Sends self st c o → ReplyStands self.sizes.most_keys (history (st ∷ c)) o
unfolding vote_frame new_view_frame block_frame proposal_frame
sends-reply self st c n o (its_vote a e v to) r cl s p x t h =
    absurd (let k : vote_frame self a.branch ≡ frame.reply r cl s p x t = h in cc)
sends-reply self st c n o (new_reply a m) r cl s p x t h =
    own-reply self a (history (st ∷ c)) m (reply_to self a) refl r cl s p x t h
sends-reply self st c n o (old_reply a m) r cl s p x t h =
    own-reply self a (history (st ∷ c))
    (answers-grow self.sizes.most_keys (history c) (history (st ∷ c)) (history-grows st c n) a m)
    (reply_to self a) refl r cl s p x t h
sends-reply self st c n o its_view r cl s p x t h =
    absurd (let k : new_view_frame self (st ∷ c) ≡ frame.reply r cl s p x t = h in cc)
sends-reply self st c n o (its_block to a m) r cl s p x t h =
    absurd (let k : block_frame self to a ≡ frame.reply r cl s p x t = h in cc)
sends-reply self st c n o (its_proposal j l e) r cl s p x t h =
    absurd (let k : proposal_frame self (view self.sizes c) j ≡ frame.reply r cl s p x t = h in cc)

-- what a member holds grows with each outcome
pub held-running : (o : Replica) → o.standing ≡ running → held_history o ≡ history o.chronicle
unfolding held_history
held-running o u = ap (λ (s : Standing). elim s as (λ x. History) [
  | running ↦ history o.chronicle
  | stopped ↦ history o.chronicle
  | cut_short held ↦ beginning held (history o.chronicle)
]) u

held-stops : (c : Chronicle) (stops : Bool)
    → held_history (record { chronicle = c; standing = cond stops stopped running }) ≡ history c
unfolding held_history
held-stops c true = refl
held-stops c false = refl

pub held-grows : (self : Identity) (v : Ruling) (old : Replica) (r : Replica × Reaction)
    → Outcome self old.chronicle v old r → IsBeginning (held_history old) (held_history r.0)
unfolding held_history
held-grows self v old r (unchanged n l) = ([], refl)
held-grows self v old r (refused s n u l) = ([], held-running old u ∙ sym (held-stops old.chronicle s))
held-grows self v old r (lacks sender d u) = ([], held-running old u)
held-grows self v old r (conflict st u e h) = ([], held-running old u)
held-grows self v old r (stood st u e h) =
    subst (λ (x : History). IsBeginning x (history (st ∷ old.chronicle))) (sym (held-running old u))
    (history-grows st old.chronicle h)
held-grows self v old r (cut st k u e h) =
    subst (λ (x : History). IsBeginning x (beginning
    (min (length (history old.chronicle) + k) (length (history (st ∷ old.chronicle))))
    (history (st ∷ old.chronicle)))) (sym (held-running old u))
    (let g = history-grows st old.chronicle h in
    beginning-longer (history old.chronicle) _ (history (st ∷ old.chronicle)) g
    (let a =
    length-added g.0 (history old.chronicle) in let b =
    ap (λ (x : History). length x) g.1 in omega (arith, a, b)))
