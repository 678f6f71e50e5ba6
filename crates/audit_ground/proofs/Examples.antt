-- What the examples share: lives of replicas, and tests that they are kept.
use Rattle.std.proofs.Common.{ℕ, zero, suc, ◌≡◌, ◌<◌, ◌≤◌, ◌&&◌, ◌||◌, not, Bool, true, false}
use Rattle.std.proofs.Common.{List, [], ◌∷◌, map, length, nat_lt, refl, sym, ap, subst, ◌∙◌, arith, inl}
use Rattle.std.proofs.Common.{inr, true≢false}
use Rattle.std.specs.List.{list_any, AllByRecursion}
use Rattle.std.proofs.lemmas.Bool.{cond-false, ne_eqb, and_parts, ltb-true, not-true}
use Rattle.std.proofs.lemmas.Bool.{not_from_true, or_cases}
use Rattle.std.proofs.lemmas.List.{length-map}
use lib.Pointwise.{bytes_decides}
use Rattle.std.specs.Str.{bytes_eq}
use Rattle.definitions.specs.Bytes.{Bytes}
use Rattle.definitions.specs.Frames.{Command, Core, genesis_core}
use Rattle.definitions.specs.Histories.{Entry, history_of}
use Rattle.definitions.proofs.Lists.{Among-mapped}
use Rattle.ids.specs.Sizes.{Sizes, quorum}
use Rattle.definitions.specs.Lists.{beginning, Among}
use Rattle.definitions.specs.Branches.{Branch, justify_height, just1, just2, just3, highest, extends}
use Rattle.definitions.specs.Branches.{branch_eq}
use Rattle.definitions.specs.Digests.{digest, digest_of, core_of, NoCollision}
use Rattle.definitions.specs.Chronicles.{Admitted, Step.took_block, Chronicle, taken_blocks, tree, vheight}
use Rattle.definitions.specs.Chronicles.{lock}
use Rattle.definitions.specs.Chronicles.{decides, decided_by, decided, executed, history, stored_blocks}
use Rattle.definitions.specs.Chronicles.{HasGrounds, HasGrounds.by_genesis}
use Rattle.definitions.specs.Chronicles.{HasGrounds.by_votes, IsLawfulVote, IsLawfulTake, IsLawful}
use Rattle.definitions.specs.Trees.{clear_above}
use Rattle.definitions.specs.Grounds.{are_replicas}
use Rattle.definitions.proofs.Sound.{clear_above-each, replicas-from}
use Rattle.definitions.specs.Replicas.{Standing.running, held_history}
use Rattle.definitions.specs.Audit.{Cut, Member, Judged, Turns, steps_in, chronicle_of, step_after, may_move}
use Rattle.definitions.specs.Audit.{AreAllowed, AreFronts}
use Rattle.definitions.proofs.Branches.{branch_eq-decides, extends-true}
use Rattle.definitions.proofs.Chronicles.{tree-grows}
use Rattle.agreement.proofs.Certified.{any-among, among-any}
use Rattle.audit_ground.specs.Law.{KnownTo, numbers, IsStored, IsLawfullyKept, AreOfFour}
use Rattle.audit_ground.proofs.Fronts.{is_backed_if, may_move-is, fronts-from_turns}
use Rattle.definitions.proofs.Lists.{any-from}
use Rattle.audit_ground.proofs.Stored.{stored-blocks_are_named}

-- four replicas, of which one may be faulty
abbrev pub sizes : Sizes
sizes = record { faults = 1; clients = 2; most_keys = 65536 }

-- a block that was taken as a new one, by its own core and a certificate of the block that it justifies
abbrev pub admitted : Branch → List ℕ → Bool → Admitted
admitted b counted voted = record {
  branch = b;
  core = core_of b;
  certificate = record { digest = digest_of (just1 b); votes = [] };
  counted = counted;
  senders = [];
  clear = true;
  new = true;
  voted = voted;
}

-- the block, its counted voters, and whether it was voted for
abbrev pub Taking : Type 0
Taking = Branch × List ℕ × Bool

-- a chronicle of blocks taken
abbrev pub life : List Taking → Chronicle
life [] = []
life (t ∷ earlier) = took_block (admitted t.0 t.1 t.2) ∷ life earlier

-- replicas that lived so
abbrev pub judged_of : List (ℕ × List Taking) → Judged
judged_of [] = []
judged_of (p ∷ rest) =
    record { number = p.0; replica = record { chronicle = life p.1; standing = running } } ∷ judged_of rest

-- ---- who may not move

-- no steps stand for a number above all
pub none-else : (ks : Judged) (n : ℕ) → AllByRecursion (λ i. i < n) (numbers ks) → (u : ℕ) → n ≤ u
    → chronicle_of ks u ≡ []
unfolding chronicle_of
none-else [] n h u l = refl
none-else (m ∷ rest) n h u l =
    cond-false _ _ _ (ne_eqb m.number u (λ e. (let k = h.0 in omega (arith, e, k, l))))
    ∙ none-else rest n h.1 u l

-- who has no steps may not move
may_move-no_steps : (ks : Judged) (k : Cut) (u : ℕ) → chronicle_of ks u ≡ [] → may_move ks k u ≡ false
unfolding is_backed_if step_after
may_move-no_steps ks k u e =
    may_move-is ks k u ∙ ap (λ (c : Chronicle). is_backed_if ks k (step_after (k u) c)) e

-- ---- a life that is kept

-- a quorum of distinct replicas
abbrev pub are_quorum : List ℕ → Bool
are_quorum counted = are_replicas sizes (quorum sizes) counted

-- the block justifies a certified one or genesis
abbrev is_certified : Branch → List ℕ → Bool
is_certified b counted = are_quorum counted || branch_eq (just1 b) []

-- a block that passes does so
certified-from : (b : Branch) (counted : List ℕ) (c : Chronicle) → is_certified b counted ≡ true
    → HasGrounds sizes (just1 b) counted [] c
certified-from b counted c h =
    elim (or_cases (are_quorum counted) (branch_eq (just1 b) []) h) [
      | inl q ↦ by_votes (replicas-from sizes (quorum sizes) counted q)
      | inr e ↦ by_genesis ((branch_eq-decides (just1 b) []).0 e)
    ]

-- the block is new, and stands on its parent
unfoldable pub may_take : Branch → Chronicle → Bool
may_take [] c = false
may_take (b ∷ parent) c =
    not (list_any (branch_eq (b ∷ parent)) (tree c))
    && (nat_lt b.justify (suc (length parent)) && list_any (branch_eq parent) (tree c))

-- a vote for it is lawful
unfoldable pub votes_well : Branch → Chronicle → Chronicle → Bool
votes_well b now c =
    nat_lt (vheight c) (length b)
    && (extends b (lock c) && clear_above (length (just1 b)) b (stored_blocks now))

-- each block of a life is taken lawfully, and voted for lawfully
unfoldable pub lives_well : List Taking → Bool
lives_well [] = true
lives_well (t ∷ earlier) =
    (may_take t.0 (life earlier) && (not t.2 || votes_well t.0 (life (t ∷ earlier)) (life earlier)))
    && (is_certified t.0 t.1 && lives_well earlier)

-- a block that may be taken is taken lawfully
take-lawful : (b : Branch) (counted : List ℕ) (voted : Bool) (c : Chronicle) → may_take b c ≡ true
    → HasGrounds sizes (just1 b) counted [] c → IsLawfulTake sizes (admitted b counted voted) c
unfolding may_take
take-lawful [] counted voted c h q = absurd (true≢false (sym h))
take-lawful (b ∷ parent) counted voted c h q =
    let p = and_parts _ _ h in
    let r = and_parts _ _ p.1 in
    record {
      new = λ m. true≢false (sym (among-any (b ∷ parent) (tree c) m) ∙ not-true _ p.0);
      parent =
          (b, parent, refl, ltb-true b.justify (suc (length parent)) r.0, any-among parent (tree c) r.1);
      certified = q;
    }

-- a vote that passes is lawful
vote-lawful : (b : Branch) (counted : List ℕ) (voted : Bool) (c : Chronicle)
    → votes_well b (took_block (admitted b counted voted) ∷ c) c ≡ true
    → IsLawfulVote b (took_block (admitted b counted voted) ∷ c) c
unfolding votes_well tree stored_blocks taken_blocks
vote-lawful b counted voted c h =
    let p = and_parts _ _ h in
    let r = and_parts _ _ p.1 in
    record {
      higher = ltb-true (vheight c) (length b) p.0;
      safe = inl (extends-true b (lock c) r.0);
      clear = clear_above-each (length (just1 b)) b (took_block (admitted b counted voted) ∷ c) r.1;
      taken = inl refl;
    }

-- what passes in a life that does
record Passes (t : Taking) (earlier : List Taking) : Type 0 where
  take : may_take t.0 (life earlier) ≡ true
  vote : (not t.2 || votes_well t.0 (life (t ∷ earlier)) (life earlier)) ≡ true
  certified : is_certified t.0 t.1 ≡ true
  rest : lives_well earlier ≡ true

-- it does, step by step
passes : (t : Taking) (earlier : List Taking) → lives_well (t ∷ earlier) ≡ true → Passes t earlier
unfolding lives_well
passes t earlier h =
    let p = and_parts
    (may_take t.0 (life earlier) && (not t.2 || votes_well t.0 (life (t ∷ earlier)) (life earlier)))
    (is_certified t.0 t.1 && lives_well earlier) h in
    let r = and_parts (may_take t.0 (life earlier))
    (not t.2 || votes_well t.0 (life (t ∷ earlier)) (life earlier)) p.0 in
    let s = and_parts (is_certified t.0 t.1) (lives_well earlier) p.1 in
    record { take = r.0; vote = r.1; certified = s.0; rest = s.1 }

-- a life that passes is lawful
life-lawful : (ts : List Taking) → lives_well ts ≡ true → IsLawful sizes (life ts)
life-lawful [] h = tt
life-lawful (t ∷ earlier) h =
    let p = passes t earlier h in (
      (
        (λ v. vote-lawful t.0 t.1 t.2 (life earlier) (elim (or_cases (not t.2)
            (votes_well t.0 (life (t ∷ earlier)) (life earlier)) p.vote)
            [ inl n ↦ absurd (true≢false (sym n ∙ not_from_true t.2 v)) | inr w ↦ w ])),
        (λ n. take-lawful t.0 t.1 t.2 (life earlier) p.take (certified-from t.0 t.1 (life earlier) p.certified)),
      ),
      life-lawful earlier p.rest,
    )

-- the digest of a block above genesis is that of its core
digest_of-core : (b : Branch) (c : Chronicle) → may_take b c ≡ true → digest (core_of b) ≡ digest_of b
unfolding may_take digest_of core_of
digest_of-core [] c h = absurd (true≢false (sym h))
digest_of-core (b ∷ parent) c h = refl

-- each block of a life is stored
took-stored : (ts : List Taking) → lives_well ts ≡ true → (a : Admitted) → Among (took_block a) (life ts)
    → IsStored (life ts) a
unfolding tree stored_blocks taken_blocks
took-stored [] h a m = absurd m
took-stored (t ∷ earlier) h a (inl e) =
    subst (IsStored (life (t ∷ earlier))) (one_block e)
    (record {
      stands = inl refl;
      named = digest_of-core t.0 (life earlier) (passes t earlier h).take;
      justified = refl;
      own = λ n. refl;
    })
  where
    one_block : took_block a ≡ took_block (admitted t.0 t.1 t.2) → admitted t.0 t.1 t.2 ≡ a
    one_block k = let i : a ≡ admitted t.0 t.1 t.2 = cc in sym i
took-stored (t ∷ earlier) h a (inr m) =
    let s = took-stored earlier (passes t earlier h).rest a m in
    record {
      stands = tree-grows (took_block (admitted t.0 t.1 t.2)) (life earlier) a.branch s.stands;
      named = s.named;
      justified = s.justified;
      own = s.own;
    }

-- a life that passes is kept
life-kept : (ts : List Taking) → lives_well ts ≡ true → IsLawfullyKept sizes (life ts)
life-kept ts h = stored-blocks_are_named sizes (life ts) (life-lawful ts h) (took-stored ts h)

-- each of some replicas has a life that passes
abbrev pub all_live_well : List (ℕ × List Taking) → Bool
all_live_well [] = true
all_live_well (p ∷ rest) = lives_well p.1 && all_live_well rest

-- so each member is kept
member-kept : (ps : List (ℕ × List Taking)) → all_live_well ps ≡ true → (m : Member) → Among m (judged_of ps)
    → IsLawfullyKept sizes m.replica.chronicle
member-kept [] h m n = absurd n
member-kept (p ∷ rest) h m (inl e) =
    subst (λ (x : Member). IsLawfullyKept sizes x.replica.chronicle) (sym e)
    (life-kept p.1 (and_parts (lives_well p.1) (all_live_well rest) h).0)
member-kept (p ∷ rest) h m (inr n) =
    member-kept rest (and_parts (lives_well p.1) (all_live_well rest) h).1 m n

-- a quorum of such replicas can be judged
pub four-from : (ps : List (ℕ × List Taking)) → are_quorum (numbers (judged_of ps)) ≡ true
    → all_live_well ps ≡ true → AreOfFour sizes (judged_of ps)
four-from ps q well =
    let ks = judged_of ps in
    let is = replicas-from sizes (quorum sizes) (numbers ks) q in
    let enough = is.2 in
    let count = length-map ks (λ m. m.number) in
    record {
      four = refl;
      are_judged = record {
        enough = omega (arith, enough, count);
        distinct = is.0;
        below = is.1;
        kept = λ m n apart. member-kept ps well m n;
      };
      kept = member-kept ps well;
    }

-- each of these turns was allowed, and none is left to replicas 0 to 3
abbrev pub AreAllTurns : Judged → Turns → Type 0
AreAllTurns ks turns =
    AreAllowed (may_move ks) turns
    × AllByRecursion (λ u. may_move ks (steps_in turns) u ≡ false) (0 ∷ 1 ∷ 2 ∷ 3 ∷ [])

-- so they lead to the fronts
pub fronts-from : (ks : Judged) → AreOfFour sizes ks → (turns : Turns) → AreAllTurns ks turns
    → AreFronts ks (steps_in turns)
fronts-from ks four turns all = fronts-from_turns ks turns all.0 stuck
  where
    stuck : (u : ℕ) → may_move ks (steps_in turns) u ≡ false
    stuck zero = all.1.0
    stuck (suc zero) = all.1.1.0
    stuck (suc (suc zero)) = all.1.1.1.0
    stuck (suc (suc (suc zero))) = all.1.1.1.1.0
    stuck (suc (suc (suc (suc u)))) =
        may_move-no_steps ks (steps_in turns) _ (none-else ks 4 four.are_judged.below _ (omega arith))

-- ---- no collisions

-- no two of these are the same
abbrev are_apart : List Bytes → Bool
are_apart [] = true
are_apart (d ∷ ds) = not (list_any (bytes_eq d) ds) && are_apart ds

-- no two of these cores have one digest
unfoldable pub digests_apart : List Core → Bool
digests_apart cs = are_apart (map digest cs)

-- a digest that is apart from others is not one of them
not-among : (d : Bytes) (ds : List Bytes) → not (list_any (bytes_eq d) ds) ≡ true → Among d ds → ⊥
not-among d ds h m =
    true≢false (sym (any-from (bytes_eq d) ds d m ((bytes_decides d d).1 refl)) ∙ not-true _ h)

-- of cores whose digests are apart, equal digests are of one
one-core : (cs : List Core) → are_apart (map digest cs) ≡ true → (a b : Core) → Among a cs → Among b cs
    → digest a ≡ digest b → a ≡ b
one-core [] h a b m n e = absurd m
one-core (c ∷ cs) h a b (inl i) (inl j) e = i ∙ sym j
one-core (c ∷ cs) h a b (inl i) (inr n) e =
    absurd (not-among (digest c) (map digest cs) (and_parts _ _ h).0
    (subst (λ (d : Bytes). Among d (map digest cs)) (sym e ∙ ap digest i) (Among-mapped digest cs b n)))
one-core (c ∷ cs) h a b (inr m) (inl j) e =
    absurd (not-among (digest c) (map digest cs) (and_parts _ _ h).0
    (subst (λ (d : Bytes). Among d (map digest cs)) (e ∙ ap digest j) (Among-mapped digest cs a m)))
one-core (c ∷ cs) h a b (inr m) (inr n) e = one-core cs (and_parts _ _ h).1 a b m n e

-- all cores of a life are among these
abbrev pub AreAmong : List Core → List Taking → Type 0
AreAmong cs ts = AllByRecursion (λ t. Among (core_of t.0) cs) ts

-- so are those of the blocks that were admitted
took-among : (cs : List Core) (ts : List Taking) → AreAmong cs ts → (a : Admitted)
    → Among (took_block a) (life ts) → Among a.core cs
took-among cs [] k a m = absurd m
took-among cs (t ∷ earlier) k a (inl e) = subst (λ (x : Core). Among x cs) (one_core e) k.0
  where
    one_core : took_block a ≡ took_block (admitted t.0 t.1 t.2) → core_of t.0 ≡ a.core
    one_core h = let i : a ≡ admitted t.0 t.1 t.2 = cc in sym (ap (λ (x : Admitted). x.core) i)
took-among cs (t ∷ earlier) k a (inr m) = took-among cs earlier k.1 a m

-- and those of each member
member-among : (cs : List Core) (ps : List (ℕ × List Taking)) → AllByRecursion (λ p. AreAmong cs p.1) ps
    → (m : Member) → Among m (judged_of ps) → (a : Admitted) → Among (took_block a) m.replica.chronicle
    → Among a.core cs
member-among cs [] k m n = absurd n
member-among cs (p ∷ rest) k m (inl e) =
    λ a t. took-among cs p.1 k.0 a (subst (λ (x : Member). Among (took_block a) x.replica.chronicle) e t)
member-among cs (p ∷ rest) k m (inr n) = member-among cs rest k.1 m n

-- where no two of these cores have one digest, and genesis's is one of them, no known cores collide
pub apart-from : (cs : List Core) → digests_apart (genesis_core ∷ cs) ≡ true → (ps : List (ℕ × List Taking))
    → AllByRecursion (λ p. AreAmong (genesis_core ∷ cs) p.1) ps → NoCollision (KnownTo (judged_of ps))
unfolding digests_apart
apart-from cs h ps k a b ka kb = one-core (genesis_core ∷ cs) h a b (known a ka) (known b kb)
  where
    known : (c : Core) → KnownTo (judged_of ps) c → Among c (genesis_core ∷ cs)
    known c (inl e) = inl e
    known c (inr (m, n, inl e)) = inl e
    known c (inr (m, n, inr (x, t, e))) =
        subst (λ (y : Core). Among y (genesis_core ∷ cs)) e (member-among (genesis_core ∷ cs) ps k m n x t)

-- ---- a life along a branch

-- a client's command
abbrev pub command : ℕ → Command
command client = record { client = client; seq = 1; payload = []; vector = [] }

-- the first block has the client's command
abbrev pub commands : ℕ → ℕ → List Command
commands client zero = command client ∷ []
commands client (suc n) = []

-- n blocks, each of which justifies the one below it
abbrev pub branch : ℕ → ℕ → Branch
branch client zero = []
branch client (suc n) = record { commands = commands client n; justify = n } ∷ branch client n

-- four blocks of the branch, and votes for them
abbrev pub along : ℕ → List ℕ → List Taking
along client voters =
    (branch client 4, voters, true) ∷ (branch client 3, voters, true) ∷ (branch client 2, voters, true)
    ∷ (branch client 1, [], true) ∷ []

-- their cores
abbrev pub cores : ℕ → List Core
cores client =
    core_of (branch client 4) ∷ core_of (branch client 3) ∷ core_of (branch client 2)
    ∷ core_of (branch client 1) ∷ []

-- the command that was executed
abbrev pub entry : ℕ → Entry
entry client = record { client = client; seq = 1; payload = [] }

-- a replica that lived so executed the command
pub along-history : (client : ℕ) (voters : List ℕ)
    → held_history (record { chronicle = life (along client voters); standing = running })
    ≡ entry client ∷ []
unfolding held_history history executed decided decided_by decides taken_blocks highest history_of just1 just2
    just3 beginning justify_height
along-history client voters = refl
