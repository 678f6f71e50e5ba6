-- What the windows of replicas show of one another's executed blocks.
use Rattle.std.proofs.Common.{ℕ, ◌≡◌, ◌≤◌, ◌||◌, ◌&&◌, Bool, true, false, cond, length, refl, sym, ap, subst}
use Rattle.std.proofs.Common.{[], ◌∷◌, ◌∙◌, arith, None, Some, inl, inr}
use Rattle.std.specs.Prelude.{◌==◌, nat_le, option_map}
use Rattle.std.proofs.lemmas.Bool.{and_parts, leb-true}
use Rattle.ids.specs.Sizes.{Sizes}
use Rattle.definitions.specs.Bytes.{Bytes}
use Rattle.definitions.specs.Lists.{beginning, Among}
use Rattle.definitions.specs.Branches.{Branch, just1, just3, Extends}
use Rattle.definitions.specs.Digests.{digest, digest_of, AllKnown, NoCollision}
use Rattle.definitions.specs.Trees.{is_in_reach}
use Rattle.definitions.specs.Chronicles.{Chronicle, executed, horizon}
use Rattle.definitions.specs.Histories.{history_of}
use Rattle.definitions.specs.Audit.{Member, Judged}
use Rattle.definitions.specs.WindowAudit.{shown_at, last_block, Leads, Meets, Differs, BlocksConflict}
use Rattle.definitions.proofs.Lists.{beginning-begins, IsBeginning-beginning, beginning-whole, Among-after}
use Rattle.definitions.proofs.Branches.{just1-extends, just3-below, Extends-trans, length-extends}
use Rattle.definitions.proofs.Digests.{stands_for-digest, all_known-below, digest_of-one}
use Rattle.definitions.proofs.Held.{executed-cases}
use Rattle.audit_ground.specs.Law.{KnownIn, KnownTo, IsKeptWell, AgreeingWindowsAreRight}
use Rattle.audit_ground.specs.Law.{ForkingWindowsAreRight}
use Rattle.audit_ground.proofs.Lists.{beginnings-comparable}
use Rattle.audit_ground.proofs.Known.{known-member, stands_for-more, kept-lawfully}
use Rattle.audit_ground.proofs.Stored.{taken-took}
use Rattle.audit_ground.proofs.Histories.{held-below}

-- ---- what a window shows

-- where a window shows a digest at a height, it is that of the block of this height on the executed branch
pub record IsShown (height : ℕ) (c : Chronicle) (d : Bytes) : Type 0 where
  pub within : height ≤ length (executed c)
  pub is : digest_of (beginning height (executed c)) ≡ d

-- the window has it
abbrev is_shown : ℕ → Chronicle → Bool
is_shown height c =
    nat_le height (length (executed c))
    && (is_in_reach (horizon c) (beginning height (executed c)) || (height == 0))

pub shown-is : (height : ℕ) (c : Chronicle) (d : Bytes)
    → option_map digest_of (shown_at height c) ≡ Some d → IsShown height c d
unfolding shown_at
shown-is height c d = by (is_shown height c) refl
  where
    by : (t : Bool) → is_shown height c ≡ t
        → option_map digest_of (cond t (Some (beginning height (executed c))) None) ≡ Some d
        → IsShown height c d
    by true k e =
        record { within = leb-true height (length (executed c)) (and_parts _ _ k).0; is = some_one e }
      where
        some_one : Some (digest_of (beginning height (executed c))) ≡ Some d
            → digest_of (beginning height (executed c)) ≡ d
        some_one i = cc
    by false k e = absurd (none_some e)
      where
        none_some : None ≡ Some d → ⊥
        none_some i = cc

-- ---- blocks of one digest

-- from here on: replicas that are each kept well, and no two cores that they know collide
module _ (sizes : Sizes) (ks : Judged) (kept : (m : Member) → Among m ks → IsKeptWell sizes m)
    (apart : NoCollision (KnownTo ks)) where
  -- the cores of a replica's executed branch are known
  executed-known : (m : Member) → Among m ks → AllKnown (KnownTo ks) (last_block m)
  executed-known m n =
      elim (executed-cases m.replica.chronicle) [
        | inl e ↦ subst (AllKnown (KnownTo ks)) (sym e) tt
        | inr r ↦ (
            let a = r.0 in
            let took = taken-took a m.replica.chronicle r.1 in
            let named = ((kept-lawfully sizes ks kept apart m n).named a took.0).block in
            let known = (stands_for-digest (KnownTo ks) (digest a.core) a.branch
            (stands_for-more (KnownIn m.replica.chronicle) (KnownTo ks) (known-member ks m n)
            (digest a.core) a.branch named)).1 in
            subst (AllKnown (KnownTo ks)) (sym r.2)
            (all_known-below (KnownTo ks) a.branch (just3 a.branch) known
            (Extends-trans a.branch (just1 a.branch) (just3 a.branch) (just1-extends a.branch)
            (just3-below a.branch))))
      ]

  -- whose last executed block another one's window shows, that one's executed branch goes through it
  meets-extends : (k m : Member) → Among k ks → Among m ks → Meets k m → Extends (last_block m) (last_block k)
  meets-extends k m a b h =
      let y = beginning (length (last_block k)) (last_block m) in
      let s = shown-is (length (last_block k)) m.replica.chronicle (digest_of (last_block k)) h in
      let below = beginning-begins (length (last_block k)) (last_block m) in
      let same : y ≡ last_block k =
      digest_of-one (KnownTo ks) apart (inl refl) refl y (last_block k)
      (all_known-below (KnownTo ks) (last_block m) y (executed-known m b) below) (executed-known k a) s.is in
      subst (λ (x : Branch). Extends (last_block m) x) same below

-- ---- the laws of these names

-- the replica that leads is judged
pub leader-judged : (ks : Judged) (m : Member) → Leads ks m → Among m ks
leader-judged ks m l =
    subst (λ (xs : Judged). Among m xs) l.are (Among-after m l.before (m ∷ l.behind) (inl refl))

pub agreeing-windows_are_right : AgreeingWindowsAreRight
agreeing-windows_are_right sizes ks kept apart (m, leads, meets) a b ma mb =
    let n = leader-judged ks m leads in
    beginnings-comparable _ _ (history_of (last_block m))
    (held-below a.replica (last_block m) (meets-extends sizes ks kept apart a m ma n (meets a ma)))
    (held-below b.replica (last_block m) (meets-extends sizes ks kept apart b m mb n (meets b mb)))

-- what extends a block of its own height is that block
whole-extended : (x y : Branch) → Extends x y → length x ≡ length y → y ≡ x
whole-extended x y h e =
    sym (IsBeginning-beginning y x h)
    ∙ (ap (λ (n : ℕ). beginning n x) (sym e) ∙ beginning-whole x)

-- where a window shows another block, the executed branches conflict
differs-conflict : (k m : Member) → Differs k m → BlocksConflict k m
differs-conflict k m (d, e, n) =
    let x : Branch = last_block k in
    let y : Branch = last_block m in
    let s = shown-is (length x) m.replica.chronicle d e in
    let apart : Extends y x → ⊥ =
    λ h. n (sym s.is ∙ ap digest_of (IsBeginning-beginning x y h)) in (
      λ h.
          let low = length-extends x y h in
          let same : length x ≡ length y = (let w = s.within in omega (arith, low, w)) in
          apart (subst (λ (z : Branch). Extends y z) (whole-extended x y h same) ([], refl)),
      apart,
    )

pub forking-windows_are_right : ForkingWindowsAreRight
forking-windows_are_right ks a b f = record {
  lower = f.lower;
  higher = f.higher;
  judged = f.judged;
  leads = f.leads;
  lower_number = f.lower_number;
  higher_number = f.higher_number;
  related = differs-conflict f.lower f.higher f.related;
}
