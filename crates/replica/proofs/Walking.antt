-- Loops over the commands of blocks, and over the blocks of a branch.
use Rattle.ids.specs.declared.limits.TheConstants.{MOST_COMMANDS}
use Rattle.std.proofs.Common.{ℕ, suc, ◌≡◌, ◌+◌, ◌-◌, ◌<◌, ◌≤◌, List, [], ◌∷◌, ◌++◌, length, map, reverse}
use Rattle.std.proofs.Common.{refl, sym, ap, ◌∙◌, arith, append_assoc, not, filter}
use Rattle.std.proofs.lemmas.List.{append-nil, map-append, reverse-append, reverse-reverse, length-take}
use Rattle.std.proofs.lemmas.Grind.{flat_map-append}
use Rattle.std.specs.List.{flat_map}
use Rattle.definitions.specs.Bytes.{Bytes}
use Rattle.definitions.specs.Frames.{Command, command_bytes}
use Rattle.definitions.specs.Histories.{Entry, entry_of, History}
use Rattle.definitions.specs.Trees.{TreeState}
use Rattle.mempool.specs.Pool.{first_beside, stands_among}
use Rattle.executor.specs.State.{with_commands}
use Rattle.replica.specs.Picks.{key_of, keys_of}
use Rattle.replica.specs.Execution.{commands_at, history_above}
use Rattle.replica.proofs.Executing.{all-heights}

-- ---- over commands

-- those before the ones that are left came to this
abbrev pub IsOver : {A : Type 0} → List Command → List Command → (List Command → A) → A → Type 0
IsOver all left f now = (done : List Command) × (done ++ left ≡ all) × (now ≡ f done)

pub over-next :
    {A : Type 0} (all left rest : List Command) (f : List Command → A) (now new : A) (k : Command)
    → IsOver all left f now → left ≡ k ∷ rest
    → ((done : List Command) → now ≡ f done → new ≡ f (done ++ k ∷ [])) → IsOver all rest f new
over-next all left rest f now new k o l step = (
  o.0 ++ k ∷ [],
  append_assoc o.0 (k ∷ []) rest ∙ ap (λ (x : List Command). o.0 ++ x) (sym l) ∙ o.1,
  step o.0 o.2,
)

pub over-all : {A : Type 0} (all left : List Command) (f : List Command → A) (now : A)
    → IsOver all left f now → left ≡ [] → now ≡ f all
over-all all left f now o e =
    o.2 ∙ ap f (sym (append-nil o.0) ∙ ap (λ (x : List Command). o.0 ++ x) (sym e) ∙ o.1)

pub puts-next : (old now new : List (ℕ × ℕ)) (done : List Command) (k : Command)
    → now ≡ old ++ map key_of done → new ≡ now ++ key_of k ∷ [] → new ≡ old ++ map key_of (done ++ k ∷ [])
puts-next old now new done k n e =
    e ∙ ap (λ (l : List (ℕ × ℕ)). l ++ key_of k ∷ []) n ∙ append_assoc old (map key_of done) (key_of k ∷ [])
    ∙ ap (λ (l : List (ℕ × ℕ)). old ++ l) (sym (map-append key_of done (k ∷ [])))

-- ---- over blocks

keys-entries : (cs : List Command) → map (λ (e : Entry). (e.client, e.seq)) (map entry_of cs) ≡ map key_of cs
keys-entries [] = refl
keys-entries (k ∷ cs) = ap (λ (l : List (ℕ × ℕ)). key_of k ∷ l) (keys-entries cs)

pub map-reverse : {A B : Type 0} (f : A → B) (xs : List A) → map f (reverse xs) ≡ reverse (map f xs)
map-reverse f [] = refl
map-reverse {A} f (x ∷ xs) =
    ap (map f) (reverse-append (x ∷ []) xs) ∙ map-append f (reverse xs) (x ∷ [])
    ∙ ap (λ l. l ++ f x ∷ []) (map-reverse f xs) ∙ sym (reverse-append (f x ∷ []) (map f xs))

-- the keys of one block more
pub keys-next : (cs : List Command) (h : History)
    → reverse (keys_of h) ++ map key_of cs ≡ reverse (keys_of (with_commands cs h))
keys-next cs h =
    sym (ap reverse (map-append (λ (e : Entry). (e.client, e.seq)) (reverse (map entry_of cs)) h
    ∙ ap (λ (l : List (ℕ × ℕ)). l ++ keys_of h)
    (map-reverse (λ (e : Entry). (e.client, e.seq)) (map entry_of cs) ∙ ap reverse (keys-entries cs)))
    ∙ reverse-append (reverse (map key_of cs)) (keys_of h)
    ∙ ap (λ (l : List (ℕ × ℕ)). reverse (keys_of h) ++ l) (reverse-reverse (map key_of cs)))

-- the keys of the blocks so far
pub record AreKeys (tip : Bytes) (all : TreeState) (from to height : ℕ) (keys : List (ℕ × ℕ)) : Type 0 where
  pub low : from ≤ height
  pub are : keys ≡ reverse (keys_of (history_above tip all from (height - from) []))
  pub none : to < from → height ≡ from

pub keys-begin : (tip : Bytes) (all : TreeState) (from to : ℕ) (keys : List (ℕ × ℕ)) → keys ≡ []
    → AreKeys tip all from to from keys
unfolding history_above
keys-begin tip all from to keys e = record {
  low = omega arith;
  are =
      e
      ∙ ap (λ (n : ℕ). reverse (keys_of (history_above tip all from n [])))
      (let z : 0 ≡ from - from = omega arith in z);
  none = λ l. refl;
}

pub keys-go_on :
    (tip : Bytes) (all : TreeState) (from to height : ℕ) (keys new : List (ℕ × ℕ)) (cs : List Command)
    → AreKeys tip all from to height keys → height < to → commands_at tip (suc height) all ≡ cs
    → new ≡ keys ++ map key_of cs → AreKeys tip all from to (height + 1) new
unfolding history_above
keys-go_on tip all from to height keys new cs k below e n =
    let l = k.low in
    let step : suc (height - from) ≡ height + 1 - from = omega (arith, l) in
    let at : from + (height - from) ≡ height = omega (arith, l) in
    record {
      low = omega (arith, l);
      are =
          n ∙ ap (λ (x : List (ℕ × ℕ)). x ++ map key_of cs) k.are
          ∙ keys-next cs (history_above tip all from (height - from) [])
          ∙ ap (λ (x : List Command). reverse
          (keys_of (with_commands x (history_above tip all from (height - from) [])))) (sym e)
          ∙ ap (λ (h : ℕ). reverse (keys_of (with_commands (commands_at tip (suc h) all)
          (history_above tip all from (height - from) [])))) (sym at)
          ∙ ap (λ (m : ℕ). reverse (keys_of (history_above tip all from m []))) step;
      none = λ o. absurd (omega (arith, o, l, below));
    }

pub keys-all : (tip : Bytes) (all : TreeState) (from to height : ℕ) (keys : List (ℕ × ℕ))
    → AreKeys tip all from to height keys → to ≤ height → (from ≤ to → height ≤ to)
    → keys ≡ reverse (keys_of (history_above tip all from (to - from) []))
keys-all tip all from to height keys k low high =
    k.are
    ∙ ap (λ (m : ℕ). reverse (keys_of (history_above tip all from m [])))
    (all-heights from to height k.none low high)

-- ---- over requests

pub bytes-next : (done : List Command) (k : Command)
    → flat_map command_bytes (done ++ k ∷ []) ≡ flat_map command_bytes done ++ command_bytes k
bytes-next done k =
    flat_map-append command_bytes done (k ∷ [])
    ∙ ap (λ (l : Bytes). flat_map command_bytes done ++ l) (append-nil (command_bytes k))

-- a block takes few
pub few-beside : (on : List (ℕ × ℕ)) (rs : List Command) → length (first_beside on rs) ≤ 16
few-beside on rs =
    let l = length-take MOST_COMMANDS (filter (λ r. not (stands_among on r)) rs) in omega (arith, l)
