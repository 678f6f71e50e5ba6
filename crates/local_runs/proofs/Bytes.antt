-- A run in which each frame of the record comes as the bytes that it is spelled in: the same run.
use Rattle.std.proofs.Common.{ℕ, ◌≡◌, true, false, List, [], ◌∷◌, ◌++◌, cond, refl, sym, ap, subst, ◌∙◌, inl, inr}
use Rattle.std.proofs.Common.{Option, Some, None, Ok, length, ◌&&◌, ◌<◌, map, suc, nat_lt, option_map, arith}
use Rattle.std.specs.List.{AllByRecursion, list_all}
use Rattle.std.proofs.lemmas.Bool.{and_parts, ltb-true}
use Rattle.std.proofs.lemmas.Option.{slice_get_cases}
use Rattle.ids.specs.Sizes.{Sizes}
use Rattle.definitions.specs.Bytes.{Bytes}
use Rattle.definitions.specs.Frames.{Frame, Core, spelling}
use Rattle.definitions.specs.FrameLimits.{IsReadAs, IsWritten}
use Rattle.definitions.specs.Keyrings.{client_at}
use Rattle.definitions.specs.Lists.{Among}
use Rattle.definitions.specs.Replicas.{MemorySupply}
use Rattle.definitions.specs.Admission.{check_gathered, is_passed}
use Rattle.definitions.specs.Worlds.{World, Sent, Source, Source.of_record, Source.of_bytes, Event}
use Rattle.definitions.specs.Worlds.{Event.submit, Event.relay, Event.inject, Event.timeout, Event.beat, Event.prune}
use Rattle.definitions.specs.Worlds.{Event.offer, Event.gather, Event.lead, Event.ask, Happening, new_world, is_replica}
use Rattle.definitions.specs.Worlds.{self_of}
use Rattle.definitions.specs.Events.{nothing, comes, offers, on_checked, recorded, listed, frame_of, frames_of}
use Rattle.definitions.specs.Events.{brought, party_of, acts, effect, happens}
use Rattle.definitions.specs.Runs.{refusal, run, after, names_party, names_frame, names_request, is_there}
use Rattle.definitions.specs.Premises.{IsReadFrom, IsReadIn, AllRead, admits_in, accepted_tags, NoForgeryIn}
use Rattle.definitions.specs.Premises.{NoForgery, CoreBrought, CoreOfRun}
use Rattle.definitions.proofs.Certificates.{all-implied}
use Rattle.definitions.proofs.Lists.{Among-before}
use Rattle.linear_law.proofs.Linear.{run-step}
use Rattle.linear_law.proofs.WholeRuns.{sent-are-frames, slice_get-among, new-sizes}
use Rattle.local_runs.specs.Law.{CanComeAlone, RunsAreOfProcesses}
use Rattle.local_runs.proofs.Told.{IsBytes, BringsBytes, IsTold, passed}
use Rattle.local_runs.proofs.Alone.{not-refused, runs-through, same-parties}

-- ---- an event, in bytes

-- bytes that are read as this frame; or some that are read as none
abbrev spelled : Option Frame → Source
spelled None = of_bytes [] None
spelled (Some f) = of_bytes (spelling f) (Some f)

-- a frame of the record as bytes
abbrev source_in_bytes : World → Source → Source
source_in_bytes w (of_record k) = spelled (recorded w k)
source_in_bytes w (of_bytes bytes read) = of_bytes bytes read

abbrev sources_in_bytes : World → List Source → List Source
sources_in_bytes w [] = []
sources_in_bytes w (s ∷ ss) = source_in_bytes w s ∷ sources_in_bytes w ss

-- bytes come
abbrev inject_from : ℕ → Source → Event
inject_from to (of_record k) = relay k to
inject_from to (of_bytes bytes read) = inject to bytes read

abbrev in_bytes : World → Event → Event
in_bytes w (relay k to) = inject_from to (spelled (recorded w k))
in_bytes w (offer to source) = offer to (source_in_bytes w source)
in_bytes w (gather to sources) = gather to (sources_in_bytes w sources)
in_bytes w e = e

all_in_bytes : World → List Happening → List Happening
all_in_bytes w [] = []
all_in_bytes w (h ∷ hs) = (in_bytes w h.0, h.1) ∷ all_in_bytes (happens w h) hs

-- ---- it is the same event

same-source : (w : World) (s : Source) → frame_of w (source_in_bytes w s) ≡ frame_of w s
same-source w (of_record k) = by (recorded w k)
  where
    by : (o : Option Frame) → frame_of w (spelled o) ≡ o
    by None = refl
    by (Some f) = refl
same-source w (of_bytes bytes read) = refl

same-sources : (w : World) (ss : List Source) → frames_of w (sources_in_bytes w ss) ≡ frames_of w ss
same-sources w [] = refl
same-sources w (s ∷ ss) =
    λ k. listed (same-source w s k) ++ same-sources w ss k

-- what is the same in two events
record IsSame (w : World) (m : MemorySupply) (e new : Event) : Type 0 where
  party : party_of new ≡ party_of e
  acting : acts w new m ≡ acts w e m
  brings : brought w new ≡ brought w e
  admitting : (f : Frame) → admits_in w new f ≡ admits_in w e f
  naming : names_party w new ≡ names_party w e
  asking : names_request new ≡ names_request e

as-it-was : (w : World) (m : MemorySupply) (e : Event) → IsSame w m e e
as-it-was w m e =
    record { party = refl; acting = refl; brings = refl; admitting = λ f. refl; naming = refl; asking = refl }

as-relayed : (w : World) (m : MemorySupply) (k to : ℕ) (bytes : Bytes) (o : Option Frame) → recorded w k ≡ o
    → IsSame w m (relay k to) (inject to bytes o)
unfolding acts party_of brought
as-relayed w m k to bytes o i = record {
  party = refl;
  acting = ap (λ (x : Option Frame). comes to m x w) (sym i);
  brings = ap (λ (x : Option Frame). listed x) (sym i);
  admitting = λ f. refl;
  naming = refl;
  asking = refl;
}

same-event : (w : World) (m : MemorySupply) (e : Event) → IsSame w m e (in_bytes w e)
unfolding acts party_of brought
same-event w m (relay k to) = by (recorded w k) refl
  where
    by : (o : Option Frame) → recorded w k ≡ o → IsSame w m (relay k to) (inject_from to (spelled o))
    by None i = as-relayed w m k to [] None i
    by (Some g) i = as-relayed w m k to (spelling g) (Some g) i
same-event w m (offer to source) = record {
  party = refl;
  acting = ap (λ (x : Option Frame). offers to m x w) (same-source w source);
  brings = ap (λ (x : Option Frame). listed x) (same-source w source);
  admitting = λ f. refl;
  naming = refl;
  asking = refl;
}
same-event w m (gather to sources) =
    let e = same-sources w sources in
    record {
      party = refl;
      acting = ap (λ (fs : List Frame). on_checked to m (check_gathered (self_of w to) fs) w) e;
      brings = e;
      admitting = λ f k. is_replica w to && is_passed (check_gathered (self_of w to) (e k));
      naming = refl;
      asking = refl;
    }
same-event w m (submit c payload) = as-it-was w m (submit c payload)
same-event w m (inject to bytes read) = as-it-was w m (inject to bytes read)
same-event w m (timeout r) = as-it-was w m (timeout r)
same-event w m (beat r) = as-it-was w m (beat r)
same-event w m (prune r height) = as-it-was w m (prune r height)
same-event w m (lead r d) = as-it-was w m (lead r d)
same-event w m (ask r to d) = as-it-was w m (ask r to d)

same-effect : (w : World) (m : MemorySupply) (e new : Event) → IsSame w m e new
    → effect w (new, m) ≡ effect w (e, m)
unfolding effect
same-effect w m e new s = λ k. cond (w.is_faulty (s.party k)) (nothing w None) (s.acting k)

-- so the same world comes of it
same-happens : (w : World) (m : MemorySupply) (e new : Event) → IsSame w m e new
    → happens w (new, m) ≡ happens w (e, m)
unfolding happens
same-happens w m e new s = λ k. record {
  sizes = w.sizes;
  is_faulty = w.is_faulty;
  ring = w.ring;
  replica = (same k).replica;
  session = (same k).session;
  sent = w.sent ++ map (λ o. record { event = w.now; sender = s.party k; to = o.0; frame = o.1 }) (same k).out;
  receipts =
      map (λ r. record { event = w.now; client = client_at (s.party k); receipt = r }) (same k).accepted ++ w.receipts;
  answers = (same k).answer ∷ w.answers;
  now = suc w.now;
}
  where
    same : effect w (new, m) ≡ effect w (e, m)
    same = same-effect w m e new s

same-world : (w : World) (h : Happening) → happens w (in_bytes w h.0, h.1) ≡ happens w h
same-world w h = same-happens w h.1 h.0 (in_bytes w h.0) (same-event w h.1 h.0)

-- and it brings no forged tag
same-forgery : (w : World) (m : MemorySupply) (e new : Event) → IsSame w m e new → NoForgeryIn w e
    → NoForgeryIn w new
same-forgery w m e new s old f b ok ad x n correct =
    old f (subst (λ (fs : List Frame). Among f fs) s.brings b)
    (subst (λ (p : ℕ). w.is_faulty p ≡ false) s.party ok) (sym (s.admitting f) ∙ ad) x
    (subst (λ (p : ℕ). Among x (accepted_tags (self_of w p) f)) s.party n) correct

-- ---- it can come alone

spelled-bytes : (to : ℕ) (o : Option Frame) → IsBytes (spelled o) × BringsBytes (inject_from to (spelled o))
spelled-bytes to None = (tt, tt)
spelled-bytes to (Some f) = (tt, tt)

source-bytes : (w : World) (s : Source) → IsBytes (source_in_bytes w s)
source-bytes w (of_record k) = (spelled-bytes 0 (recorded w k)).0
source-bytes w (of_bytes bytes read) = tt

sources-bytes : (w : World) (ss : List Source) → AllByRecursion IsBytes (sources_in_bytes w ss)
sources-bytes w [] = tt
sources-bytes w (s ∷ ss) = (source-bytes w s, sources-bytes w ss)

brings-bytes : (w : World) (e : Event) → BringsBytes (in_bytes w e)
brings-bytes w (submit c payload) = tt
brings-bytes w (relay k to) = (spelled-bytes to (recorded w k)).1
brings-bytes w (inject to bytes read) = tt
brings-bytes w (timeout r) = tt
brings-bytes w (beat r) = tt
brings-bytes w (prune r height) = tt
brings-bytes w (offer to source) = source-bytes w source
brings-bytes w (gather to sources) = sources-bytes w sources
brings-bytes w (lead r d) = tt
brings-bytes w (ask r to d) = tt

told-in-bytes : (w : World) (h : Happening) → refusal w h.0 ≡ None → IsTold w (in_bytes w h.0, h.1)
told-in-bytes w h e =
    let t = passed w h.0 e in
    let s = same-event w h.1 h.0 in
    record { bytes = brings-bytes w h.0; party = s.naming ∙ t.0; request = s.asking ∙ t.2 }

-- ---- it is read rightly

-- each frame that was sent is spelled
abbrev AreSpelled : Sizes → World → Type 0
AreSpelled sizes w = (s : Sent) → Among s w.sent → IsWritten sizes s.frame

-- those that are there
recorded-read : (sizes : Sizes) (w : World) (k : ℕ) → AreSpelled sizes w → nat_lt k (length w.sent) ≡ true
    → (f : Frame) × (recorded w k ≡ Some f) × IsWritten sizes f
recorded-read sizes w k a there = elim (slice_get_cases w.sent k).1 [
  | inl x ↦ (
    x.0.frame,
    ap (λ (o : Option Sent). option_map (λ s. s.frame) o) x.2,
    a x.0 (slice_get-among w.sent k x.0 x.2),
  )
  | inr y ↦ absurd (let l : k < length w.sent = ltb-true _ _ there in let g = y.0 in omega (arith, l, g))
]

spelled-read : (sizes : Sizes) (to : ℕ) (o : Option Frame) (f : Frame) → o ≡ Some f → IsWritten sizes f
    → IsReadFrom sizes (spelled o) × IsReadIn sizes (inject_from to (spelled o))
spelled-read sizes to None f e k = absurd (none e)
  where
    none : None ≡ Some f → ⊥
    none i = cc
spelled-read sizes to (Some g) f e k =
    let same : f ≡ g = cc in
    let w : IsWritten sizes g = subst (IsWritten sizes) same k in
    let r : IsReadAs sizes (spelling g) (Some g) = (w.0, inr (w.1, refl)) in
    (r, r)

source-read : (sizes : Sizes) (w : World) (s : Source) → AreSpelled sizes w → is_there w s ≡ true
    → IsReadFrom sizes s → IsReadFrom sizes (source_in_bytes w s)
source-read sizes w (of_record k) a there r =
    let x = recorded-read sizes w k a there in (spelled-read sizes 0 (recorded w k) x.0 x.1 x.2).0
source-read sizes w (of_bytes bytes read) a there r = r

sources-read : (sizes : Sizes) (w : World) (ss : List Source) → AreSpelled sizes w
    → list_all (is_there w) ss ≡ true → AllByRecursion (IsReadFrom sizes) ss
    → AllByRecursion (IsReadFrom sizes) (sources_in_bytes w ss)
sources-read sizes w [] a there r = tt
sources-read sizes w (s ∷ ss) a there r =
    let p = and_parts _ _ there in
    (source-read sizes w s a p.0 r.0, sources-read sizes w ss a p.1 r.1)

event-read : (sizes : Sizes) (w : World) (e : Event) → AreSpelled sizes w → names_frame w e ≡ true
    → IsReadIn sizes e → IsReadIn sizes (in_bytes w e)
event-read sizes w (relay k to) a there r =
    let x = recorded-read sizes w k a there in (spelled-read sizes to (recorded w k) x.0 x.1 x.2).1
event-read sizes w (offer to source) a there r = source-read sizes w source a there r
event-read sizes w (gather to sources) a there r = sources-read sizes w sources a there r
event-read sizes w (submit c payload) a there r = r
event-read sizes w (inject to bytes read) a there r = r
event-read sizes w (timeout p) a there r = r
event-read sizes w (beat p) a there r = r
event-read sizes w (prune p height) a there r = r
event-read sizes w (lead p d) a there r = r
event-read sizes w (ask p to d) a there r = r

-- ---- a whole run

sent-kept : (hs : List Happening) (w : World) (s : Sent) → Among s w.sent → Among s (after w hs).sent
unfolding after happens
sent-kept [] w s m = m
sent-kept (h ∷ hs) w s m = sent-kept hs (happens w h) s (Among-before s w.sent _ m)

run-after : (hs : List Happening) (w last : World) → run w hs ≡ Ok last → after w hs ≡ last
unfolding run after
run-after [] w last e = cc
run-after (h ∷ hs) w last e =
    run-after hs (happens w h) last (run-step (refusal w h.0) (run (happens w h) hs) last e).1

-- what is the same in a run that comes in bytes
record IsSameRun (sizes : Sizes) (w : World) (hs order : List Happening) : Type 0 where
  told : AllByRecursion (IsTold w) order
  ends : after w order ≡ after w hs
  read : AllRead sizes order
  no_forgery : NoForgery w order
  cores : (c : Core) → CoreBrought c w order → CoreBrought c w hs

earlier-told : (w : World) (x : Happening) (hs : List Happening) → AllByRecursion (IsTold (happens w x)) hs
    → AllByRecursion (IsTold w) hs
unfolding happens
earlier-told w x hs a =
    all-implied (IsTold (happens w x)) (IsTold w)
    (λ h t. record { bytes = t.bytes; party = t.party; request = t.request }) hs a

same-run : (sizes : Sizes) (hs : List Happening) (w last : World) → run w hs ≡ Ok last
    → AreSpelled sizes (after w hs) → AllRead sizes hs → NoForgery w hs
    → IsSameRun sizes w hs (all_in_bytes w hs)
unfolding run after all_in_bytes
same-run sizes [] w last e a r n =
    record { told = tt; ends = refl; read = tt; no_forgery = tt; cores = λ c b. b }
same-run sizes (h ∷ hs) w last e a r n =
    let ok = run-step (refusal w h.0) (run (happens w h) hs) last e in
    let rest = same-run sizes hs (happens w h) last ok.1 a r.1 n.1 in
    let order : List Happening = all_in_bytes (happens w h) hs in
    let s = same-event w h.1 h.0 in
    let world = same-world w h in
    let now : AreSpelled sizes w = λ x m. a x (sent-kept (h ∷ hs) w x m) in
    record {
      told = (told-in-bytes w h ok.0, earlier-told w h order rest.told);
      ends = ap (λ (x : World). after x order) world ∙ rest.ends;
      read = (event-read sizes w h.0 now (passed w h.0 ok.0).1 r.0, rest.read);
      no_forgery = (
        same-forgery w h.1 h.0 (in_bytes w h.0) s n.0,
        subst (λ (x : World). NoForgery x order) (sym world) rest.no_forgery,
      );
      cores = λ c b. elim b [
        | inl x ↦ inl (x.0, subst (λ (fs : List Frame). Among x.0 fs) s.brings x.1, x.2)
        | inr x ↦ inr (rest.cores c (subst (λ (y : World). CoreBrought c y order) world x))
      ];
    }

pub runs-processes : RunsAreOfProcesses
unfolding new_world
runs-processes sizes is_faulty ring hs last met e =
    let start : World = new_world sizes is_faulty ring in
    let order : List Happening = all_in_bytes start hs in
    let end : after start hs ≡ last = run-after hs start last e in
    let sizes_are : last.sizes ≡ sizes = (same-parties hs start last e).0 ∙ new-sizes sizes is_faulty ring in
    let written : AreSpelled sizes last =
    subst (λ (z : Sizes). AreSpelled z last) sizes_are (sent-are-frames sizes is_faulty ring hs last met e) in
    let same = same-run sizes hs start last e (subst (AreSpelled sizes) (sym end) written) met.read met.no_forgery in (
      order,
      all-implied (IsTold start) (CanComeAlone start) (λ h t. not-refused start h t) order same.told,
      record {
        few = met.few;
        keys = met.keys;
        read = same.read;
        no_forgery = same.no_forgery;
        no_collision = λ a b ka kb. met.no_collision a b (core start order same a ka) (core start order same b kb);
      },
      runs-through order start same.told ∙ ap (λ (w : World). Ok w) (same.ends ∙ end),
    )
  where
    core : (start : World) (order : List Happening) → IsSameRun sizes start hs order → (c : Core)
        → CoreOfRun start order c → CoreOfRun start hs c
    core start order same c (inl g) = inl g
    core start order same c (inr (inl x)) =
        inr (inl (x.0, subst (λ (w : World). Among x.0 w.sent) same.ends x.1, x.2))
    core start order same c (inr (inr b)) = inr (inr (same.cores c b))
