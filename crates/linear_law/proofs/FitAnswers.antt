-- Each answer of a replica's history can be a reply: its command came in a frame, and its text is bounded.
use Rattle.std.proofs.Common.{ℕ, suc, ◌≡◌, ◌<◌, ◌≤◌, ◌^◌, Bool, true, false, [], ◌∷◌, length, cond, refl}
use Rattle.std.proofs.Common.{sym, ap, subst, ◌∙◌, arith, inl, inr, map, reverse}
use Rattle.ids.specs.Sizes.{Sizes}
use Rattle.definitions.specs.Lists.{Among}
use Rattle.definitions.specs.Frames.{Core, Command}
use Rattle.definitions.specs.FrameLimits.{IsCommand}
use Rattle.definitions.specs.Branches.{Branch}
use Rattle.definitions.specs.Digests.{AllKnown}
use Rattle.definitions.specs.Histories.{Entry, entry_of, History, history_of, Answer, answers, is_fresh}
use Rattle.definitions.specs.Chronicles.{Chronicle, tree, executed, history, IsSound}
use Rattle.definitions.proofs.Lists.{Among-either, Among-map, Among-reverse}
use Rattle.definitions.proofs.ReplyTexts.{answer-text}
use Rattle.linear_law.proofs.Inputs.{all-among}
use Rattle.linear_law.proofs.Fits.{IsCoreOrGenesis, core-block, history-length, answers-entry}
use Rattle.definitions.proofs.Held.{executed-tree}
use Rattle.linear_law.proofs.SentFrames.{IsFitAnswer}

-- places are counted from 1
answers-place : (most_keys : ℕ) (h : History) (a : Answer) → Among a (answers most_keys h) → 1 ≤ a.place
unfolding answers
answers-place most_keys [] a m = absurd m
answers-place most_keys (e ∷ h) a m = by (answers-place most_keys h a) (is_fresh e h) _ refl m
  where
    by : (Among a (answers most_keys h) → 1 ≤ a.place) → (t : Bool) (new : Answer) → new.place ≡ suc (length h)
        → Among a (cond t (new ∷ answers most_keys h) (answers most_keys h)) → 1 ≤ a.place
    by older true new p (inl i) = let q = ap (λ (x : Answer). x.place) i in omega (arith, p, q)
    by older true new p (inr k) = older k
    by older false new p k = older k

module _ (Known : Core → Type 0) (s : Sizes) (cores : (c : Core) → Known c → IsCoreOrGenesis s c) where
  -- each entry of a history is a command of a frame
  history-command : (x : Branch) → AllKnown Known x → (e : Entry) → Among e (history_of x)
      → (k : Command) × IsCommand s k × (e ≡ entry_of k)
  unfolding history_of
  history-command [] h e m = absurd m
  history-command (b ∷ parent) h e m =
      elim (Among-either e (reverse (map entry_of b.commands)) (history_of parent) m) [
        | inl k ↦ (let r = Among-map entry_of b.commands e (Among-reverse (map entry_of b.commands) e k) in
            (r.0, all-among (IsCommand s) b.commands r.0 (core-block s b parent (cores _ h.0)).1 r.1, r.2))
        | inr k ↦ history-command parent h.1 e k
      ]

  -- each answer of a chronicle can be a reply
  pub answers-fit : (c : Chronicle) → IsSound s c → ((x : Branch) → Among x (tree c) → AllKnown Known x)
      → (a : Answer) → Among a (answers s.most_keys (history c)) → IsFitAnswer s a
  unfolding history
  answers-fit c so known a m =
      let x : Branch = executed c in
      let t : Among x (tree c) = executed-tree s c so.lawful in
      let i = answers-entry s.most_keys (history_of x) a m in
      let k = history-command x (known x t) i.entry i.among in
      let client : k.0.client ≡ a.client = sym (ap (λ (e : Entry). e.client) k.2) ∙ i.client in
      let seq : k.0.seq ≡ a.seq = sym (ap (λ (e : Entry). e.seq) k.2) ∙ i.seq in
      let l = history-length Known s cores x (known x t) in
      let h = so.heights x t in
      let q = i.place in
      record {
        client = subst (λ (n : ℕ). n < s.clients) client k.1.client;
        seq = (subst (λ (n : ℕ). 1 ≤ n) seq k.1.seq.0, subst (λ (n : ℕ). n < 2 ^ 64) seq k.1.seq.1);
        place = (answers-place s.most_keys (history_of x) a m, omega (arith, l, h, q));
        text = answer-text s.most_keys (history_of x) a m;
      }
