-- The numbers in a member's answers fit into eight bytes: its tree is bounded, and its commands are those
-- of frames.
use Rattle.std.proofs.Common.{ℕ, suc, ◌≡◌, ◌*◌, ◌^◌, ◌<◌, ◌≤◌, ◌⊎◌, Bool, true, false, List, [], ◌∷◌}
use Rattle.std.proofs.Common.{length, cond, refl, sym, ap, subst, ◌∙◌, arith, inl, inr, map, reverse}
use Rattle.std.proofs.Common.{length-append}
use Rattle.std.specs.List.{AllByRecursion}
use Rattle.std.proofs.lemmas.List.{length-reverse, length-map}
use Rattle.ids.specs.Sizes.{Sizes}
use Rattle.definitions.specs.Lists.{Among}
use Rattle.definitions.specs.Frames.{Command, Core, Frame, genesis_core}
use Rattle.definitions.specs.FrameLimits.{IsCommand, IsCore, IsFrame}
use Rattle.definitions.specs.Frames as frame
use Rattle.definitions.specs.Branches.{Block, Branch}
use Rattle.definitions.specs.Digests.{core_of, core_over, AllKnown}
use Rattle.definitions.specs.Histories.{Entry, entry_of, History, history_of, Answer, answers, is_fresh}
use Rattle.definitions.specs.Chronicles.{Chronicle, tree, executed, history, IsSound}
use Rattle.definitions.specs.Replicas.{held_history}
use Rattle.definitions.specs.Worlds.{World}
use Rattle.definitions.specs.Premises.{CoreOf}
use Rattle.definitions.proofs.Lists.{Among-either, Among-map, Among-reverse}
use Rattle.linear_law.proofs.Inputs.{all-among}
use Rattle.linear_law.proofs.Effects.{is_member}
use Rattle.linear_law.proofs.Runs.{chronicles, IsRun}
use Rattle.definitions.proofs.Histories.{held-begins}
use Rattle.definitions.proofs.Held.{executed-tree}
use Rattle.linear_law.proofs.Replies.{answers-grow}

-- the core of genesis, or one that a frame may have
abbrev pub IsCoreOrGenesis : Sizes → Core → Type 0
IsCoreOrGenesis sizes c = (c ≡ genesis_core) ⊎ IsCore sizes c

-- ---- the cores of frames

pub core-frame : (s : Sizes) (f : Frame) (c : Core) → IsFrame s f → CoreOf c f → IsCore s c
core-frame s (frame.proposal view core q v) c fr o = subst (IsCore s) (sym o) fr.1
core-frame s (frame.block sender core q t) c fr o = subst (IsCore s) (sym o) fr.1
core-frame s (frame.request k) c fr o = absurd o
core-frame s (frame.vote d b) c fr o = absurd o
core-frame s (frame.new_view w r q v) c fr o = absurd o
core-frame s (frame.reply r k q p t g) c fr o = absurd o
core-frame s (frame.fetch r d t) c fr o = absurd o

-- ---- histories of branches of such cores

pub core-block : (s : Sizes) (b : Block) (parent : Branch) → IsCoreOrGenesis s (core_of (b ∷ parent))
    → (length b.commands ≤ 16) × AllByRecursion (IsCommand s) b.commands
unfolding core_of core_over
core-block s b parent (inl e) = absurd (apart (ap (λ (c : Core). c.height) e))
  where
    apart : suc (length parent) ≡ 0 → ⊥
    apart h = cc
core-block s b parent (inr h) = (h.count, h.commands)

length-reverse_map : (cs : List Command) → length (reverse (map entry_of cs)) ≡ length cs
length-reverse_map cs = length-reverse (map entry_of cs) ∙ length-map cs entry_of

module _ (Known : Core → Type 0) (s : Sizes) (cores : (c : Core) → Known c → IsCoreOrGenesis s c) where
  pub history-length : (x : Branch) → AllKnown Known x → length (history_of x) ≤ 16 * length x
  unfolding history_of
  history-length [] h = omega arith
  history-length (b ∷ parent) h =
      let k = (core-block s b parent (cores _ h.0)).0 in
      let l = history-length parent h.1 in
      let a = length-append (reverse (map entry_of b.commands)) (history_of parent) in
      let r = length-reverse_map b.commands in
      omega (arith, k, l, a, r)

  history-seq : (x : Branch) → AllKnown Known x → (e : Entry) → Among e (history_of x) → e.seq < 2 ^ 64
  unfolding history_of
  history-seq [] h e m = absurd m
  history-seq (b ∷ parent) h e m =
      elim (Among-either e (reverse (map entry_of b.commands)) (history_of parent) m) [
        | inl k ↦ (let r = Among-map entry_of b.commands e (Among-reverse (map entry_of b.commands) e k) in
            let c = all-among (IsCommand s) b.commands r.0 (core-block s b parent (cores _ h.0)).1 r.1 in
            subst (λ (n : ℕ). n < 2 ^ 64) (sym (ap (λ (x : Entry). x.seq) r.2)) c.seq.1)
        | inr k ↦ history-seq parent h.1 e k
      ]

-- ---- answers

pub record IsAnswerOf (a : Answer) (h : History) : Type 0 where
  pub entry : Entry
  pub among : Among entry h
  pub client : entry.client ≡ a.client
  pub seq : entry.seq ≡ a.seq
  pub place : a.place ≤ length h

later-answer : (a : Answer) (e : Entry) (h : History) → IsAnswerOf a h → IsAnswerOf a (e ∷ h)
later-answer a e h x = record {
  entry = x.entry;
  among = inr x.among;
  client = x.client;
  seq = x.seq;
  place = (let p = x.place in omega (arith, p));
}

answer-step : (most_keys : ℕ) (e : Entry) (h : History) (new a : Answer) (t : Bool) → new.client ≡ e.client
    → new.seq ≡ e.seq → new.place ≡ suc (length h) → (Among a (answers most_keys h) → IsAnswerOf a h)
    → Among a (cond t (new ∷ answers most_keys h) (answers most_keys h)) → IsAnswerOf a (e ∷ h)
answer-step most_keys e h new a true c s p rest (inl i) =
    record {
      entry = e;
      among = inl refl;
      client = sym c ∙ ap (λ (x : Answer). x.client) (sym i);
      seq = sym s ∙ ap (λ (x : Answer). x.seq) (sym i);
      place = (let q = ap (λ (x : Answer). x.place) i in omega (arith, q, p));
    }
answer-step most_keys e h new a true c s p rest (inr m) = later-answer a e h (rest m)
answer-step most_keys e h new a false c s p rest m = later-answer a e h (rest m)

pub answers-entry : (most_keys : ℕ) (h : History) (a : Answer) → Among a (answers most_keys h)
    → IsAnswerOf a h
unfolding answers
answers-entry most_keys [] a m = absurd m
answers-entry most_keys (e ∷ h) a m =
    answer-step most_keys e h _ a (is_fresh e h) refl refl refl (answers-entry most_keys h a) m

-- the seq and the place of each answer of a member
abbrev pub AnswersFit : World → Type 0
AnswersFit w =
    (p : ℕ) → is_member w p ≡ true → (a : Answer) → Among a (answers w.sizes.most_keys (held_history (w.replica p)))
    → (a.seq < 2 ^ 64) × (a.place < 2 ^ 64)

pub answers-fit : (Known : Core → Type 0) (w : World) → IsRun Known w
    → ((c : Core) → Known c → IsCoreOrGenesis w.sizes c) → AnswersFit w
unfolding history
answers-fit Known w run cores p mp a m =
    let c : Chronicle = chronicles w p in
    let so : IsSound w.sizes c = run.row.sound p mp in
    let x : Branch = executed c in
    let t : Among x (tree c) = executed-tree w.sizes c so.lawful in
    let known : AllKnown Known x = run.row.known p mp x t in
    let i : IsAnswerOf a (history_of x) =
    answers-entry w.sizes.most_keys (history_of x) a
    (answers-grow w.sizes.most_keys (held_history (w.replica p)) (history c) (held-begins (w.replica p)) a m) in
    let l = history-length Known w.sizes cores x known in
    let h = so.heights x t in
    let q = i.place in (
      subst (λ (n : ℕ). n < 2 ^ 64) i.seq (history-seq Known w.sizes cores x known i.entry i.among),
      omega (arith, l, h, q),
    )
