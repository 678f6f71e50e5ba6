-- What a replica of the run tells is what its world has.
use Rattle.ids.specs.Sizes.{Sizes, replicas, client_party}
use Rattle.std.specs.Borrow.{Bor}
use Rattle.std.specs.Prelude.{MatchOption, option_map}
use Rattle.std.proofs.Common.{ℕ, ◌<◌, ◌≡◌, Bool, true, false, List, length, Option, Some, None, sym, ap, subst, ◌∙◌}
use Rattle.std.proofs.lemmas.Bool.{cond-true, cond-false}
use Rattle.client_accept.specs.declared.session.Session.{Session}
use Rattle.definitions.specs.Bytes.{Bytes}
use Rattle.definitions.specs.Checks.{Identity, identity_of}
use Rattle.definitions.specs.Chronicles.{Chronicle, lock, vheight, window}
use Rattle.definitions.specs.Digests.{digest_of}
use Rattle.definitions.specs.Keyrings.{Keyring}
use Rattle.definitions.specs.Replicas.{Replica}
use Rattle.definitions.specs.States.{view, leaf, is_known}
use Rattle.definitions.specs.Worlds.{World, Happening, self_of}
use Rattle.recovery.specs.Correct.{chronicle_of, lock_of, view_of}
use Rattle.replica.specs.Steps as steps
use Rattle.world_schedule.specs.Progress.{Stand, StandsAt, IsReplicaOf, IsSessionOf}
use Rattle.world_schedule.specs.Seats.{IsIn}
use Rattle.world_schedule.specs.Settings.{Setting, is_faulty_in}
use Rattle.healer.specs.Asked.{session_of}
use Rattle.healer.specs.Courses.{Course, HasReplica, HasClient, IsReplicaIn}

-- the world is of the run's setting
pub in-setting : (r : Stand) (hs : List Happening) (w : World) → StandsAt r hs w → IsIn r.setting w
in-setting r hs w t = t.comes.now_at.parties.setting

pub same-sizes-told : (r : Stand) (hs : List Happening) (w : World) → StandsAt r hs w → r.setting.sizes ≡ w.sizes
same-sizes-told r hs w t = sym (in-setting r hs w t).sizes_are

-- a replica of the run is one of its world
pub replica-in : (s : Setting) (w : World) (i : ℕ) (h : steps.Held) → IsIn s w → IsReplicaOf s w i h → IsReplicaIn w i h
replica-in s w i h m r = record {
  self = λ k. record {
    sizes = (r.keys.sizes_are ∙ sym m.sizes_are) k;
    ring = (r.keys.ring_is ∙ sym (ap (λ (f : ℕ → Keyring). f i) m.rings_are)) k;
  };
  state = r.state;
}

pub replica-told : (r : Stand) (i : ℕ) (h told : steps.Held)
    → ((hs : List Happening) (w : World) → StandsAt r hs w → i < replicas r.setting.sizes → IsReplicaOf r.setting w i h)
    → told ≡ h → (hs : List Happening) (w : World) → StandsAt r hs w → HasReplica i w → IsReplicaIn w i told
replica-told r i h told f e hs w t l =
    subst (λ (x : steps.Held). IsReplicaIn w i x) (sym e)
    (replica-in r.setting w i h (in-setting r hs w t)
    (f hs w t (subst (λ (z : Sizes). i < replicas z) (sym (same-sizes-told r hs w t)) l)))

pub nobody-told : (r : Stand) (i : ℕ)
    → ((hs : List Happening) (w : World) → StandsAt r hs w → i < replicas r.setting.sizes → ⊥)
    → (hs : List Happening) (w : World) → StandsAt r hs w → HasReplica i w → ⊥
nobody-told r i f hs w t l = f hs w t (subst (λ (z : Sizes). i < replicas z) (sym (same-sizes-told r hs w t)) l)

-- whether a party is faulty
pub faulty-told : (r : Stand) (p : ℕ) (hs : List Happening) (w : World) → StandsAt r hs w
    → is_faulty_in r.setting p ≡ w.is_faulty p
faulty-told r p hs w t = ap (λ (f : ℕ → Bool). f p) (sym (in-setting r hs w t).faulty_are)

-- so is the session of a client
pub session-told : (r : Stand) (c : ℕ) (o : Option (Bor Session)) (hs : List Happening) (w : World) → StandsAt r hs w
    → HasClient c w → w.is_faulty (client_party c) ≡ false
    → ((gs : List Happening) (v : World) → StandsAt r gs v → c < r.setting.sizes.clients
    → MatchOption o ⊥ (λ s. IsSessionOf r.setting v c s.now))
    → option_map (λ s. s.now.session) o ≡ session_of c w
session-told r c o hs w t l ok f =
    by o (f hs w t (subst (λ (z : Sizes). c < z.clients) (sym (same-sizes-told r hs w t)) l))
    ∙ sym (cond-false (w.is_faulty (client_party c)) None (Some (w.session c)) ok)
  where
    by : (o : Option (Bor Session)) → MatchOption o ⊥ (λ s. IsSessionOf r.setting w c s.now)
        → option_map (λ s. s.now.session) o ≡ Some (w.session c)
    by None h = absurd h
    by (Some s) h = ap Some h.state

pub no-session-told : (w : World) (c : ℕ) → w.is_faulty (client_party c) ≡ true → None ≡ session_of c w
no-session-told w c e = sym (cond-true (w.is_faulty (client_party c)) None (Some (w.session c)) e)

-- ---- what it tells

module _ (w : World) (i : ℕ) (h : steps.Held) (r : IsReplicaIn w i h) where
  told-of : {A : Type 0} (f : Chronicle → A) → f h.replica.chronicle ≡ f (chronicle_of w i)
  told-of f = ap (λ (x : Replica). f x.chronicle) r.state

  pub view-is : view h.keys.sizes h.replica.chronicle ≡ view_of w i
  view-is = ap (λ (x : Identity). view x.sizes h.replica.chronicle) r.self ∙ told-of (λ c. view w.sizes c)

  pub lock-height-is : length (lock h.replica.chronicle) ≡ length (lock_of w i)
  lock-height-is = told-of (λ c. length (lock c))

  pub lock-is : digest_of (lock h.replica.chronicle) ≡ digest_of (lock_of w i)
  lock-is = told-of (λ c. digest_of (lock c))

  pub voted-is : vheight h.replica.chronicle ≡ vheight (chronicle_of w i)
  voted-is = told-of (λ c. vheight c)

  pub leaf-is : length (leaf (identity_of h.keys) h.replica.chronicle) ≡ length (leaf (self_of w i) (chronicle_of w i))
  leaf-is =
      ap (λ (x : Identity). length (leaf x h.replica.chronicle)) r.self ∙ told-of (λ c. length (leaf (self_of w i) c))

  pub blocks-are : length (window h.replica.chronicle) ≡ length (window (chronicle_of w i))
  blocks-are = told-of (λ c. length (window c))

  pub known-is : (d : Bytes) → is_known d h.replica.chronicle ≡ is_known d (chronicle_of w i)
  known-is d = told-of (λ c. is_known d c)

-- where the one course stands, the other stands
pub at-own : (x y : Course) (hs : List Happening) (w : World) → x ≡ y → StandsAt y.stand hs w → StandsAt x.stand hs w
at-own x y hs w e t = subst (λ (z : Course). StandsAt z.stand hs w) (sym e) t
