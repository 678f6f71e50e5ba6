-- Blocks that are asked for.
use Rattle.ids.specs.declared.fault.Fault.{Fault}
use Rattle.ids.specs.declared.kind.Kind.TheVariants as kind
use Rattle.std.specs.Prelude.{slice_index_or}
use Rattle.std.proofs.Common.{ℕ, ◌+◌, ◌<◌, ◌≤◌, ◌≡◌, Bool, List, [], ◌∷◌, ◌++◌, map, length, take, ap, ◌∙◌, sym, refl, Option}
use Rattle.std.proofs.Common.{Result, OnOk}
use Rattle.std.proofs.lemmas.List.{map-append, take_more, take_all}
use Rattle.definitions.specs.Branches.{Branch}
use Rattle.definitions.specs.Bytes.{Bytes}
use Rattle.definitions.specs.Digests.{digest_of}
use Rattle.definitions.specs.Frames.{Frame}
use Rattle.definitions.specs.Runs.{after}
use Rattle.definitions.specs.Worlds.{World, Event.ask, Event.gather, Source, Source.of_record, Happening}
use Rattle.recovery.specs.Correct.{amply, correct_replicas}
use Rattle.recovery.specs.Healing.{Phase, in_turn, sent_since, delivered_since, is_question, is_copy, ask_one, ask_each}
use Rattle.recovery.specs.Healing.{fetch_block, lacking, fetch_for_all, fetch_all}
use Rattle.world_schedule.specs.declared.event.Event as code
use Rattle.world_schedule.specs.declared.event.Event.TheVariants.{Ask}
use Rattle.world_schedule.specs.declared.event.Source as code_source
use Rattle.world_schedule.specs.declared.event.Source.TheVariants.{Record}
use Rattle.world_schedule.specs.Schedules.{event_of, sources_of}
use Rattle.healer.specs.Courses.{Course, Takes, GoesWhere, Told, ToldWhere, AreCorrect}
use Rattle.healer.specs.Fetching.{fetch_by}
use Rattle.healer.specs.Records.{is_of}
use Rattle.healer.proofs.Making.{since}
use Rattle.healer.proofs.Members.{still-correct}
use Rattle.healer.proofs.Phases.{goes-one}
use Rattle.healer.proofs.Records.{questions, copies}
use Rattle.healer.proofs.Turns.{where-too, where-as, where-told, two-phases, each-first, each-next, each-all, on-ok-too}

-- ---- questions

pub asks-one : (d : Bytes) (u to before : ℕ) (rs : List ℕ) (a b c : Course) (r : Result (Unit {0}) Fault)
    → Told a (λ w. before ≡ length w.sent) → Takes a (Ask u to d) b
    → OnOk r (GoesWhere b (AreCorrect rs) (λ w. amply (delivered_since before (is_of kind.Fetch) w)) c)
    → OnOk r (GoesWhere a (AreCorrect rs) (ask_one d u to) c)
unfolding ask_one
asks-one d u to before rs a b c r told t h = on-ok-too _ _ r by h
  where
    p : Phase
    p v = amply (ask u to d ∷ [])

    by : GoesWhere b (AreCorrect rs) (λ w. amply (delivered_since before (is_of kind.Fetch) w)) c
        → GoesWhere a (AreCorrect rs) (ask_one d u to) c
    by m =
        two-phases a b c (AreCorrect rs) (AreCorrect rs) p (λ v. amply (delivered_since before (is_of kind.Fetch) v))
        (λ w v. amply (delivered_since (length w.sent) is_question v))
        (where-too a b (AreCorrect rs) p (goes-one a b (Ask u to d) (ask u to d) t (λ reads. refl))) m
        (λ hs w s x s'.
        let v : World = after w (p w) in (
          still-correct rs w (p w) x,
          ap (λ (n : ℕ). amply (delivered_since n (is_of kind.Fetch) v)) (told hs w s)
              ∙ ap (λ (q : Frame → Bool). amply (delivered_since (length w.sent) q v)) questions,
        ))

each-asked : (d : Bytes) (u : ℕ) (rs : List ℕ) (w : World) → in_turn (map (ask_one d u) rs) w ≡ ask_each d u rs w
unfolding ask_each in_turn
each-asked d u [] w = refl
each-asked d u (r ∷ rs) w =
    ap (λ (l : List Happening). ask_one d u r w ++ l) (each-asked d u rs (after w (ask_one d u r w)))

pub asks-first : (d : Bytes) (u : ℕ) (rs : List ℕ) (a : Course)
    → GoesWhere a (AreCorrect rs) (in_turn (map (ask_one d u) (take 0 rs))) a
asks-first d u rs a = each-first ℕ (AreCorrect rs) (still-correct rs) (ask_one d u) rs a

pub asks-next : (d : Bytes) (u : ℕ) (rs : List ℕ) (i e r : ℕ) (a b c : Course) → i < length rs
    → r ≡ slice_index_or rs i e
    → GoesWhere a (AreCorrect rs) (in_turn (map (ask_one d u) (take i rs))) b
    → GoesWhere b (AreCorrect rs) (ask_one d u r) c
    → GoesWhere a (AreCorrect rs) (in_turn (map (ask_one d u) (take (i + 1) rs))) c
asks-next d u rs i e r a b c l at g h =
    each-next ℕ (AreCorrect rs) (still-correct rs) (ask_one d u) rs i e r a b c (AreCorrect rs) l at (λ w x. x) g h

pub asks-all : (d : Bytes) (u : ℕ) (rs : List ℕ) (i : ℕ) (a b : Course) → length rs ≤ i
    → GoesWhere a (AreCorrect rs) (in_turn (map (ask_one d u) (take i rs))) b
    → GoesWhere a (AreCorrect rs) (ask_each d u rs) b
asks-all d u rs i a b l g =
    where-as a b (AreCorrect rs) (in_turn (map (ask_one d u) rs)) (ask_each d u rs) (λ w x. each-asked d u rs w)
    (each-all ℕ (AreCorrect rs) (still-correct rs) (ask_one d u) rs i a b l g)

-- ---- copies

-- frames of the record as sources
pub record-sources : (reads : List (Option Frame)) (ks : List ℕ)
    → sources_of reads (map (λ k. Record k) ks) ≡ map of_record ks
record-sources [] [] = refl
record-sources (x ∷ reads) [] = refl
record-sources [] (k ∷ ks) = ap (λ (l : List Source). of_record k ∷ l) (record-sources [] ks)
record-sources (x ∷ reads) (k ∷ ks) = ap (λ (l : List Source). of_record k ∷ l) (record-sources reads ks)

pub sources-next : (ks : List ℕ) (i d : ℕ) (ss : List code_source.Source) → i < length ks
    → ss ≡ map (λ k. Record k) (take i ks)
    → ss ++ Record (slice_index_or ks i d) ∷ [] ≡ map (λ k. Record k) (take (i + 1) ks)
sources-next ks i d ss l h =
    ap (λ (ys : List code_source.Source). ys ++ Record (slice_index_or ks i d) ∷ []) h
    ∙ (sym (map-append (λ (k : ℕ). Record k) (take i ks) (slice_index_or ks i d ∷ []))
    ∙ ap (λ (ys : List ℕ). map (λ k. Record k) ys) (sym (take_more ks i d l)))

pub sources-all : (ks : List ℕ) (i : ℕ) (ss : List code_source.Source) → length ks ≤ i
    → ss ≡ map (λ k. Record k) (take i ks) → ss ≡ map (λ k. Record k) ks
sources-all ks i ss l h = h ∙ ap (λ (ys : List ℕ). map (λ k. Record k) ys) (take_all i ks l)

pub fetches-block : (d : Bytes) (u before : ℕ) (rs ks : List ℕ) (event : code.Event) (a b c : Course)
    (r : Result (Unit {0}) Fault) → Told a (λ w. before ≡ length w.sent)
    → GoesWhere a (AreCorrect rs) (ask_each d u rs) b
    → Told b (λ w. ks ≡ sent_since before (is_of kind.Block) w)
    → ((reads : List (Option Frame)) → event_of reads event ≡ gather u (map of_record ks))
    → OnOk r (Takes b event c) → OnOk r (GoesWhere a (AreCorrect rs) (fetch_block d u) c)
unfolding fetch_block in_turn
fetches-block d u before rs ks event a b c r told g told' is h = on-ok-too _ _ r by h
  where
    p : Phase
    p w = ask_each d u (correct_replicas w) w

    q : Phase
    q v = amply (gather u (map of_record ks) ∷ [])

    by : Takes b event c → GoesWhere a (AreCorrect rs) (fetch_block d u) c
    by t =
        two-phases a b c (AreCorrect rs) (AreCorrect rs) p q
        (λ w v. amply (gather u (map of_record (sent_since (length w.sent) is_copy v)) ∷ []))
        (where-as a b (AreCorrect rs) (ask_each d u rs) p (λ w x. ap (λ (ps : List ℕ). ask_each d u ps w) x) g)
        (where-too b c (AreCorrect rs) q (goes-one b c event (gather u (map of_record ks)) t is))
        (λ hs w s x s'.
        let v : World = after w (p w) in (
          still-correct rs w (p w) x,
          ap (λ (ns : List ℕ). amply (gather u (map of_record ns) ∷ []))
              (since (is_of kind.Block) is_copy before ks w v copies (told hs w s) (told' (hs ++ p w) v s')),
        ))

-- ---- for all that lack it

pub fetches-first : (d : Bytes) (rs us : List ℕ) (a : Course)
    → GoesWhere a (AreCorrect rs) (in_turn (map (fetch_block d) (take 0 us))) a
fetches-first d rs us a = each-first ℕ (AreCorrect rs) (still-correct rs) (fetch_block d) us a

pub fetches-next : (d : Bytes) (rs us : List ℕ) (i e u : ℕ) (a b c : Course) → i < length us
    → u ≡ slice_index_or us i e
    → GoesWhere a (AreCorrect rs) (in_turn (map (fetch_block d) (take i us))) b
    → GoesWhere b (AreCorrect rs) (fetch_block d u) c
    → GoesWhere a (AreCorrect rs) (in_turn (map (fetch_block d) (take (i + 1) us))) c
fetches-next d rs us i e u a b c l at g h =
    each-next ℕ (AreCorrect rs) (still-correct rs) (fetch_block d) us i e u a b c (AreCorrect rs) l at (λ w x. x) g h

pub fetches-all : (d : Bytes) (rs us : List ℕ) (i : ℕ) (a b : Course) → length us ≤ i
    → ToldWhere a (AreCorrect rs) (λ w. us ≡ lacking d w)
    → GoesWhere a (AreCorrect rs) (in_turn (map (fetch_block d) (take i us))) b
    → GoesWhere a (AreCorrect rs) (fetch_by d) b
fetches-all d rs us i a b l told g =
    where-told a b (AreCorrect rs) (in_turn (map (fetch_block d) us)) (fetch_by d)
    (λ hs w t x. ap (λ (ps : List ℕ). in_turn (map (fetch_block d) ps) w) (told hs w t x))
    (each-all ℕ (AreCorrect rs) (still-correct rs) (fetch_block d) us i a b l g)

-- ---- a branch

pub branch-first : (rs : List ℕ) (ds : List Bytes) (a : Course)
    → GoesWhere a (AreCorrect rs) (in_turn (map fetch_by (take 0 ds))) a
branch-first rs ds a = each-first Bytes (AreCorrect rs) (still-correct rs) fetch_by ds a

pub branch-next : (rs : List ℕ) (ds : List Bytes) (i : ℕ) (e d : Bytes) (a b c : Course) → i < length ds
    → d ≡ slice_index_or ds i e → GoesWhere a (AreCorrect rs) (in_turn (map fetch_by (take i ds))) b
    → GoesWhere b (AreCorrect rs) (fetch_by d) c
    → GoesWhere a (AreCorrect rs) (in_turn (map fetch_by (take (i + 1) ds))) c
branch-next rs ds i e d a b c l at g h =
    each-next Bytes (AreCorrect rs) (still-correct rs) fetch_by ds i e d a b c (AreCorrect rs) l at (λ w x. x) g h

pub branch-all : (rs : List ℕ) (ds : List Bytes) (i : ℕ) (a b : Course) → length ds ≤ i
    → GoesWhere a (AreCorrect rs) (in_turn (map fetch_by (take i ds))) b
    → GoesWhere a (AreCorrect rs) (in_turn (map fetch_by ds)) b
branch-all rs ds i a b l g = each-all Bytes (AreCorrect rs) (still-correct rs) fetch_by ds i a b l g

by-digest : (x : Branch) → fetch_by (digest_of x) ≡ fetch_for_all x
unfolding fetch_for_all
by-digest x = refl

by-digests : (xs : List Branch) → map fetch_by (map digest_of xs) ≡ map fetch_for_all xs
by-digests [] = refl
by-digests (x ∷ xs) =
    ap (λ (p : Phase). p ∷ map fetch_by (map digest_of xs)) (by-digest x)
    ∙ ap (λ (ps : List Phase). fetch_for_all x ∷ ps) (by-digests xs)

-- the blocks of these digests
pub fetches-branch : (xs : List Branch) (w : World) → in_turn (map fetch_by (map digest_of xs)) w ≡ fetch_all xs w
unfolding fetch_all
fetches-branch xs w = ap (λ (ps : List Phase). in_turn ps w) (by-digests xs)
