-- A whole schedule: no event is answered with a conflict, and the replicas' histories are beginnings of one.
use Rattle.ids.specs.declared.fault.Fault.{Fault}
use Rattle.ids.specs.declared.fault.Fault.TheVariants as fault
use Rattle.std.proofs.Common.{ℕ, zero, suc, ◌≡◌, ◌<◌, ◌≤◌, ◌⊎◌, ◌&&◌, not, Bool, true, false, List, [], ◌∷◌}
use Rattle.std.proofs.Common.{length, refl, sym, ap, subst, ◌∙◌, arith, inl, inr, Option, Some, None}
use Rattle.std.proofs.Common.{true≢false, ltb, Result, Ok, Err}
use Rattle.std.proofs.lemmas.Bool.{cases_Bool, cases_lt}
use Rattle.definitions.proofs.Lists.{length-added, Among-after}
use Rattle.definitions.proofs.Branches.{extends-true, extends-from}
use Rattle.linear_law.proofs.Rows.{IsRow}
use Rattle.linear_law.proofs.Effects.{is_member}
use Rattle.linear_law.proofs.Requested.{RequestsFit, StoresCores, happens-stored, AllRequested}
use Rattle.linear_law.proofs.Requested.{happens-requested}
use Rattle.linear_law.proofs.Entries.{entry-requested}
use Rattle.linear_law.proofs.Runs.{chronicles, IsRun, IsMadeWell, IsHonest, happens-keeps, row-agrees}
use Rattle.definitions.proofs.Chronicles.{executed-decided}
use Rattle.definitions.proofs.Sound.{only-genesis, first-sound}
use Rattle.std.specs.List.{AllByRecursion}
use Rattle.definitions.specs.Lists.{IsBeginning, Among, count_below}
use Rattle.definitions.specs.Frames.{Core, genesis_core}
use Rattle.definitions.specs.FrameLimits.{IsCore}
use Rattle.definitions.specs.Branches.{Branch, Extends, extends}
use Rattle.ids.specs.Sizes.{Sizes, replicas, quorum, client_party}
use Rattle.definitions.specs.Keyrings.{Keyring}
use Rattle.definitions.proofs.Spellings.{command_content_injective}
use Rattle.definitions.specs.Digests.{AllKnown, NoCollision}
use Rattle.definitions.specs.Histories.{Entry}
use Rattle.definitions.specs.Chronicles.{tree, taken_blocks, executed, history, stored_blocks}
use Rattle.definitions.specs.Worlds.{World, Happening, new_world}
use Rattle.definitions.specs.Runs.{refusal}
use Rattle.definitions.specs.Events.{happens}
use Rattle.definitions.specs.Linearity.{WasSubmitted}
use Rattle.definitions.specs.Agreement.{steps_of}

below_suc : (i n : ℕ) → i < suc n → (i < n) ⊎ (i ≡ n)
below_suc i n l = elim (cases_lt i n) [ inl k ↦ inl k | inr k ↦ inr (omega arith) ]

-- a branch that goes through one as long is that one
same-length : (a b : Branch) → Extends a b → length a ≤ length b → Extends b a
same-length a b ([], e) l = ([], sym e)
same-length a b (x ∷ added, e) l =
    absurd (let k = length-added added b in let m = ap (λ (y : Branch). length y) e in omega (arith, k, m, l))

-- ---- the whole schedule

-- the answers of a run are none of them a conflict
abbrev pub NoneConflicts : List (Option Fault) → Type 0
NoneConflicts l = AllByRecursion (λ a. a ≡ Some fault.Conflict → ⊥) l

pub record IsGood (Known : Core → Type 0) (w : World) : Type 0 where
  pub run : IsRun Known w
  pub made : IsMadeWell w
  pub answers : NoneConflicts w.answers
  pub cores : (c : Core) → Known c → (c ≡ genesis_core) ⊎ IsCore w.sizes c
  pub stored : (p : ℕ) → is_member w p ≡ true → StoresCores (chronicles w p)
  pub requested : (p : ℕ) → is_member w p ≡ true → AllRequested w w.sent (chronicles w p)

pub run-step : (o : Option Fault) (next : Result World Fault) (last : World)
    → elim o as (λ x. Result World Fault) [ Some n ↦ Err n | None ↦ next ] ≡ Ok last
    → (o ≡ None) × (next ≡ Ok last)
run-step None next last e = (refl, e)
run-step (Some n) next last e = absurd (err e)
  where
    err : Err n ≡ Ok last → ⊥
    err k = cc

module _ (Known : Core → Type 0) (apart : NoCollision Known) (genesis : Known genesis_core)
    (ground : genesis_core.height ≡ 0) where
  pub good-happens : (w : World) (h : Happening) → IsGood Known w → IsHonest Known w h.0
      → refusal w h.0 ≡ None → IsGood Known (happens w h)
  unfolding happens
  good-happens w h g honest ok =
      let k = happens-keeps Known apart genesis ground w h.0 h.1 g.run g.made honest ok in
      record {
        run = k.0;
        made = k.1;
        answers = (k.2, g.answers);
        cores = g.cores;
        stored = happens-stored Known w h.0 h.1 g.run honest.framed ok g.stored;
        requested = happens-requested Known w h.0 h.1 g.run honest ok g.requested;
      }

-- ---- the world at its start

pub new-row : (Known : Core → Type 0) (sizes : Sizes) (is_member : ℕ → Bool)
    → IsRow Known sizes is_member (λ i. [])
unfolding tree stored_blocks taken_blocks steps_of
new-row Known sizes is_member = record {
  sound = λ p m. first-sound sizes;
  known = λ p m b k. subst (AllKnown Known) (sym (only-genesis b k)) tt;
  orderly = record { order = []; whole = λ i m. refl; ordered = tt };
}

abbrev pub IsMade : Sizes → (ℕ → Bool) → (ℕ → Keyring) → Type 0
IsMade sizes is_faulty ring =
    ((p : ℕ) → (ltb p (replicas sizes) && not (is_faulty p)) ≡ true → (ring p).party ≡ p)
    × (quorum sizes ≤ count_below (replicas sizes) (λ p. ltb p (replicas sizes) && not (is_faulty p)))

pub new-good : (Known : Core → Type 0) (sizes : Sizes) (is_faulty : ℕ → Bool) (ring : ℕ → Keyring)
    → IsMade sizes is_faulty ring → ((c : Core) → Known c → (c ≡ genesis_core) ⊎ IsCore sizes c)
    → IsGood Known (new_world sizes is_faulty ring)
unfolding new_world taken_blocks
new-good Known sizes is_faulty ring m cores = record {
  run = record { row = new-row Known sizes _; stands = λ s k. absurd k; given = λ p k. tt };
  made = record { rings = m.0; enough = m.1 };
  answers = tt;
  cores = cores;
  stored = λ p k. λ a n. absurd n;
  requested = λ p k. λ a n. absurd n;
}

-- genesis's core has height 0
pub ground : genesis_core.height ≡ 0
ground = refl

-- the member below n that executed most
pub record IsLongest (w : World) (n : ℕ) (j : ℕ) : Type 0 where
  pub member : is_member w j ≡ true
  pub longest : (i : ℕ) → i < n → is_member w i ≡ true
      → length (executed (chronicles w i)) ≤ length (executed (chronicles w j))

unfoldable pub NoneBelow : World → ℕ → Type 0
NoneBelow w n = (i : ℕ) → i < n → is_member w i ≡ true → ⊥

pub longest-below : (w : World) (n : ℕ) → NoneBelow w n ⊎ ((j : ℕ) × IsLongest w n j)
unfolding NoneBelow
longest-below w zero = inl (λ i l m. omega arith)
longest-below w (suc n) =
    elim (cases_Bool (is_member w n)) [
      | inl t ↦ (elim (longest-below w n) [
        | inl none ↦ inr (
          n,
          record {
            member = t;
            longest =
                λ i l m. elim (below_suc i n l) [
                  | inl k ↦ absurd (none i k m)
                  | inr k ↦ subst (λ (x : ℕ). length (executed (chronicles w i))
                      ≤ length (executed (chronicles w x))) k (omega arith)
                ];
          },
        )
        | inr s ↦
            (elim (cases_lt (length (executed (chronicles w s.0))) (length (executed (chronicles w n)))) [
              | inl more ↦ inr (
                n,
                record {
                  member = t;
                  longest =
                      λ i l m. elim (below_suc i n l) [
                        | inl k ↦
                            (let h = s.1.longest i k m in omega (arith, h, more))
                        | inr k ↦ subst (λ (x : ℕ). length (executed (chronicles w i))
                            ≤ length (executed (chronicles w x))) k (omega arith)
                      ];
                },
              )
              | inr less ↦ inr (
                s.0,
                record {
                  member = s.1.member;
                  longest =
                      λ i l m. elim (below_suc i n l) [
                        | inl k ↦ s.1.longest i k m
                        | inr k ↦ subst (λ (x : ℕ). length (executed (chronicles w x))
                            ≤ length (executed (chronicles w s.0))) (sym k) less
                      ];
                },
              )
            ])
      ])
      | inr f ↦ (elim (longest-below w n) [
        | inl none ↦ inl (λ i l m. elim (below_suc i n l)
            [ inl k ↦ none i k m | inr k ↦ true≢false (sym m ∙ (ap (is_member w) k ∙ f)) ])
        | inr s ↦ inr (
          s.0,
          record {
            member = s.1.member;
            longest =
                λ i l m. elim (below_suc i n l) [
                  | inl k ↦ s.1.longest i k m
                  | inr k ↦ absurd (true≢false (sym m ∙ (ap (is_member w) k ∙ f)))
                ];
          },
        )
      ])
    ]

-- each member's executed branch is one that the longest goes through
pub longest-extends : (Known : Core → Type 0) (w : World) → IsGood Known w → (n j i : ℕ) → IsLongest w n j
    → i < n → is_member w i ≡ true → Extends (executed (chronicles w j)) (executed (chronicles w i))
longest-extends Known w g n j i s l m =
    elim (cases_Bool (extends (executed (chronicles w j)) (executed (chronicles w i)))) [
      | inl t ↦ extends-true _ _ t
      | inr f ↦ (elim (cases_Bool (extends (executed (chronicles w i)) (executed (chronicles w j)))) [
        | inl t ↦ same-length (executed (chronicles w i)) (executed (chronicles w j)) (extends-true _ _ t)
            (s.longest i l m)
        | inr k ↦ absurd (row-agrees Known w (chronicles w) g.made g.run.row j i (executed (chronicles w j))
            (executed (chronicles w i)) s.member m (executed-decided _) (executed-decided _)
            (λ e. true≢false (sym (extends-from _ _ e) ∙ f), λ e. true≢false (sym (extends-from _ _ e) ∙ k)))
      ])
    ]

-- an element of a longer list's beginning
pub at-beginning : {A : Type 0} (x : A) (older newer : List A) → IsBeginning (x ∷ older) newer → Among x newer
at-beginning {A} x older newer b =
    subst (λ (l : List A). Among x l) b.1 (Among-after x b.0 (x ∷ older) (inl refl))

-- each entry of a member's history in a correct client's name was submitted by it
pub history-submitted : (Known : Core → Type 0) (w : World) → IsGood Known w → RequestsFit w → (j : ℕ)
    → is_member w j ≡ true → (e : Entry) → Among e (history (chronicles w j))
    → w.is_faulty (client_party e.client) ≡ false → (event : ℕ) × WasSubmitted w e event
history-submitted Known w g fits j m e k ok =
    let r = entry-requested w (record {
      enough = g.made.enough;
      orderly = g.run.row.orderly;
      lawful = λ p mp. (g.run.row.sound p mp).lawful;
    }) g.requested j m e k ok in
    let s = r.2 in
    let own = fits s.0 s.1 r.0.client s.2 s.4 s.3 in
    let one = command_content_injective r.0.client s.1.client r.0.seq s.1.seq r.0.payload s.1.payload s.6
    own.1 s.5 in
    let client : s.1.client ≡ e.client = own.0 ∙ ap (λ (x : Entry). x.client) r.1 in
    let seq : s.1.seq ≡ e.seq = sym one.0 ∙ ap (λ (x : Entry). x.seq) r.1 in
    let payload : s.1.payload ≡ e.payload = sym one.1 ∙ ap (λ (x : Entry). x.payload) r.1 in (
      s.0.event,
      record {
        sent = s.0;
        command = s.1;
        recorded = s.2;
        by_client = s.3 ∙ ap (λ (x : Entry). client_party x.client) r.1;
        at_event = refl;
        is_request = s.4;
        client = client;
        seq = seq;
        payload = payload;
      },
    )
