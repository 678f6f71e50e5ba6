-- Which known cores collide.
use Rattle.std.proofs.Common.{ℕ, ◌≡◌, ◌⊎◌, List, [], ◌∷◌, length, refl, sym, ap, subst, ◌∙◌, inl, inr, None}
use Rattle.std.proofs.Common.{Some}
use Rattle.std.specs.Prelude.{All}
use Rattle.std.specs.Borrow.{Bor}
use Rattle.definitions.specs.Lists.{IsBeginning, Among, AreDistinct}
use Rattle.definitions.specs.Frames.{Core, genesis_core}
use Rattle.definitions.specs.Digests.{NoCollision}
use Rattle.definitions.specs.Chronicles.{Step, Chronicle}
use Rattle.definitions.specs.Audit.{Member, step_after, core_in, core_at, CorePlace.at_step}
use Rattle.definitions.proofs.Lists.{Among-map, IsBeginning-trans}
use Rattle.audit_ground.specs.Law.{KnownTo, numbers}
use Rattle.audit_ground.proofs.Decisions.{same_core-or_not}
use Rattle.audit_ground.proofs.Lists.{step_after-beginning}
use Rattle.audit_ground.proofs.Members.{chronicle-own}
use Rattle.replica.specs.Steps.{Held}
use Rattle.audit.specs.Judged.{member_of, judged}
use Rattle.audit.specs.Cores.{Stores, Collide}
use Rattle.audit.proofs.Lists.{each-holds}

-- a stored core is that of the newest step, or of an earlier one
stores-either : (s : Step) (earlier : Chronicle) (b : Core) → Stores (s ∷ earlier) b
    → (core_in (Some s) ≡ Some b) ⊎ Stores earlier b
unfolding core_in
stores-either s earlier b (a, inl e, is) =
    inl (ap (λ (x : Step). core_in (Some x)) (sym e) ∙ ap (λ (c : Core). Some c) is)
stores-either s earlier b (a, inr m, is) = inr (a, m, is)

-- the steps that are left to be looked at begin the chronicle, and no other step's core is looked for
pub record IsLeft (Wanted : Core → Type 0) (whole left : Chronicle) : Type 0 where
  pub begins : IsBeginning left whole
  pub rest : (b : Core) → Stores whole b → Wanted b → Stores left b

-- one less, where the newest step's core isn't looked for
pub left-less : (Wanted : Core → Type 0) (whole left earlier : Chronicle) (s : Step) → left ≡ s ∷ earlier
    → ((b : Core) → core_in (Some s) ≡ Some b → Wanted b → ⊥) → IsLeft Wanted whole left
    → IsLeft Wanted whole earlier
left-less Wanted whole left earlier s e n h =
    let now : IsLeft Wanted whole (s ∷ earlier) = subst (IsLeft Wanted whole) e h in
    record {
      begins = IsBeginning-trans earlier (s ∷ earlier) whole (s ∷ [], refl) now.begins;
      rest = λ b st w. elim (stores-either s earlier b (now.rest b st w))
          [ inl is ↦ absurd (n b is w) | inr m ↦ m ];
    }

-- a step's core is the one that it is seen to store, and none where it is seen to store none
pub only-core : (Wanted : Core → Type 0) (s : Step) (o : Core) → Some o ≡ core_in (Some s) → (Wanted o → ⊥)
    → (b : Core) → core_in (Some s) ≡ Some b → Wanted b → ⊥
only-core Wanted s o seen n b is w = n (subst Wanted (some_one (seen ∙ is)) w)
  where
    some_one : Some o ≡ Some b → b ≡ o
    some_one e = cc

pub no-core : (Wanted : Core → Type 0) (s : Step) → None ≡ core_in (Some s) → (b : Core)
    → core_in (Some s) ≡ Some b → Wanted b → ⊥
no-core Wanted s seen b is w = absurd (none_some (seen ∙ is))
  where
    none_some : None ≡ Some b → ⊥
    none_some e = cc

-- none is stored, where nothing is left
pub left-none : (Wanted : Core → Type 0) (whole left : Chronicle) → left ≡ [] → IsLeft Wanted whole left
    → (b : Core) → Stores whole b → Wanted b → ⊥
left-none Wanted whole left e h b s w =
    let r = subst (λ (c : Chronicle). Stores c b) e (h.rest b s w) in r.1

-- the newest step that is left is that behind the earlier ones
pub left-step : (Wanted : Core → Type 0) (whole left earlier : Chronicle) (s : Step) → left ≡ s ∷ earlier
    → IsLeft Wanted whole left → step_after (length earlier) whole ≡ Some s
left-step Wanted whole left earlier s e h =
    step_after-beginning s earlier whole (subst (λ (c : Chronicle). IsBeginning c whole) e h.begins)

-- the core that a member stored stands at its place
pub own-place : (rs : List (Bor Held)) → AreDistinct (numbers (judged rs)) → (r : Held)
    → Among (member_of r) (judged rs) → (k : ℕ) (b : Core)
    → core_in (step_after k r.replica.chronicle) ≡ Some b
    → core_at (judged rs) (at_step r.keys.party k) ≡ Some b
unfolding core_at
own-place rs d r m k b e =
    ap (λ (c : Chronicle). core_in (step_after k c)) (chronicle-own (judged rs) d (member_of r) m) ∙ e

-- a known core is genesis's, or a replica stored it
known-either : (rs : List (Bor Held)) (b : Core) → KnownTo (judged rs) b
    → (b ≡ genesis_core) ⊎ ((r : Bor Held) × Among r rs × Stores r.now.replica.chronicle b)
known-either rs b (inl e) = inl e
known-either rs b (inr (m, n, inl e)) = inl e
known-either rs b (inr (m, n, inr s)) =
    let r = Among-map (λ (x : Bor Held). member_of x.now) rs m n in
    inr (r.0, r.1, subst (λ (k : Member). Stores k.replica.chronicle b) r.2 s)

-- what collides with none that is stored, nor with genesis's, collides with none that is known
pub none-known : (rs : List (Bor Held)) (a : Core) → (Collide a genesis_core → ⊥)
    → All (λ r. (b : Core) → Stores r.now.replica.chronicle b → Collide a b → ⊥) rs
    → (b : Core) → KnownTo (judged rs) b → Collide a b → ⊥
none-known rs a g h b k c =
    elim (known-either rs b k) [
      | inl e ↦ g (subst (Collide a) e c)
      | inr r ↦
          each-holds (λ (x : Bor Held). (d : Core) → Stores x.now.replica.chronicle d → Collide a d → ⊥)
          rs h r.0 r.1 b r.2 c
    ]

-- no two known cores collide
pub none-collide : (rs : List (Bor Held))
    → ((b : Core) → KnownTo (judged rs) b → Collide genesis_core b → ⊥)
    → All (λ r. (a b : Core) → Stores r.now.replica.chronicle a → KnownTo (judged rs) b → Collide a b → ⊥) rs
    → NoCollision (KnownTo (judged rs))
none-collide rs g h a b ka kb e =
    elim (same_core-or_not a b) [
      | inl same ↦ same
      | inr n ↦ absurd (elim (known-either rs a ka) [
        | inl is ↦ g b kb (subst (λ (c : Core). Collide c b) is (n, e))
        | inr r ↦
            each-holds (λ (x : Bor Held). (c d : Core) → Stores x.now.replica.chronicle c
            → KnownTo (judged rs) d → Collide c d → ⊥) rs h r.0 r.1 a b r.2 kb (n, e)
      ])
    ]
