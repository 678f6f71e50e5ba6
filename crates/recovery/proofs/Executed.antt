-- A correct client's request is executed by all.
use Rattle.std.proofs.Common.{ℕ, suc, ◌≡◌, ◌<◌, ◌==◌, Bool, false, List, [], ◌∷◌, ◌++◌}
use Rattle.std.proofs.Common.{length, find, reverse, refl, sym, ap, subst, ◌∙◌, arith, inl, inr, Ok}
use Rattle.std.proofs.lemmas.Bool.{cond-false, ne_eqb, cases_lt}
use Rattle.std.proofs.lemmas.List.{append-nil}
use Rattle.ids.specs.Sizes.{Sizes, client_party, leader}
use Rattle.definitions.specs.Lists.{Among}
use Rattle.definitions.specs.Branches.{Branch, branch_eq, just2}
use Rattle.definitions.specs.Chronicles.{executed, taken_blocks}
use Rattle.definitions.specs.Digests.{digest_of}
use Rattle.definitions.specs.Frames.{Command}
use Rattle.definitions.specs.Sessions.{Session}
use Rattle.definitions.specs.Worlds.{World, Happening, new_world}
use Rattle.definitions.specs.Runs.{after}
use Rattle.recovery.specs.Correct.{ShareKeys, chronicle_of, lock_of, correct_replicas}
use Rattle.recovery.specs.Healing.{Phase, in_turn, come_to, view_to_come, make_first, fetch_all, lowest_first}
use Rattle.recovery.specs.Healing.{over_lock}
use Rattle.recovery.specs.Healing.{justified_by}
use Rattle.recovery.specs.Healing.{lead_with, to_climb, rounds, agree_on, highest_voted}
use Rattle.recovery.specs.NeverWedged.{healer, ground_of, MayHeal, IsAsked}
use Rattle.recovery.specs.Views.{CameTo}
use Rattle.recovery.specs.Rounds.{Carries}
use Rattle.recovery.specs.Requests.{IsExecutedByAll, RequestsAreExecuted}
use Rattle.recovery.proofs.Brought.{branch-brought, fetch-none}
use Rattle.recovery.proofs.Carried.{carries-over}
use Rattle.recovery.proofs.Fetched.{lock-told}
use Rattle.recovery.proofs.Locks.{healer-highest, nil}
use Rattle.recovery.proofs.Newcomers.{first-staged, locks-nil}
use Rattle.recovery.proofs.Ready.{IsReady, ready}
use Rattle.recovery.proofs.Requests.{asked-wanted, wanted-after}
use Rattle.recovery.proofs.Rounded.{rounds-decided}
use Rattle.recovery.proofs.Staged.{IsStaged, may-bring, staged}
use Rattle.recovery.proofs.Submitted.{lock-carries}
use Rattle.recovery.proofs.Views.{leader-comes}
use Rattle.recovery.proofs.Ways.{IsOnWay, KnownAt, on-way-from, on-way, way-past, turn-on, turn-passes, turn-after}
use Rattle.recovery.proofs.Ways.{turns-none}
use Rattle.recovery.proofs.Wells.{IsReached, family-of}
use Rattle.recovery.proofs.Worlds.{made-after, made-both, same-correct, Passes, passes-none, after-none}

-- ---- phases of a healing

abbrev pub first_phase : World → Phase
first_phase w = come_to (view_to_come (healer w) w)

abbrev pub third_phase : World → Phase
third_phase w = fetch_all (lowest_first (ground_of w))

abbrev pub last_phases : ℕ → World → List Phase
last_phases k w =
    lead_with k (healer w) (digest_of (lock_of w (healer w)))
    ∷ (λ v. rounds (to_climb (healer w) v) (healer w) v) ∷ []

-- no first block is made where genesis doesn't justify the lock
none-first : (l : ℕ) (w : World) → 0 < length (over_lock l w) → make_first l w ≡ []
unfolding make_first
none-first l w up =
    cond-false (length (over_lock l w) == 0) _ []
    (ne_eqb (length (over_lock l w)) 0 (λ e. absurd (omega (arith, e, up))))

-- what justifies a lock is told by what was taken
over-told : (l : ℕ) (w v : World) → taken_blocks (chronicle_of v l) ≡ taken_blocks (chronicle_of w l)
    → over_lock l v ≡ over_lock l w
over-told l w v t =
    let m = lock-told (chronicle_of w l) (chronicle_of v l) t in
    λ k. justified_by (find (λ a. branch_eq (just2 a.branch) (m k)) (reverse (t k)))

-- the worlds after the first phases
abbrev pub world_1 : World → World
world_1 w = after w (first_phase w w)

abbrev pub world_2 : World → World
world_2 w = after (world_1 w) (make_first (healer w) (world_1 w))

abbrev pub world_3 : World → World
world_3 w = after (world_2 w) (third_phase w (world_2 w))

-- what the first three phases leave
pub record AreStaged (w : World) (top : ℕ) : Type 0 where
  pub first : Passes w (first_phase w w)
  pub second : Passes (world_1 w) (make_first (healer w) (world_1 w))
  pub third : Passes (world_2 w) (third_phase w (world_2 w))
  pub stage : IsStaged (world_3 w) (healer w) (view_to_come (healer w) w) top (lock_of w (healer w))
  pub session : (world_3 w).session ≡ w.session

module _ (sizes : Sizes) (start : World) (all : List Happening) where
  -- what the first phase leaves
  record HasCome (w : World) (ps : List Phase) (rest : List Happening) : Type 0 where
    reached : IsReached (KnownAt sizes start all) w
    leads : leader w.sizes (view_to_come (healer w) w) ≡ healer w
    came : CameTo (view_to_come (healer w) w) w (world_1 w)
    over : over_lock (healer w) (world_1 w) ≡ ground_of w
    on : IsOnWay sizes start all (world_1 w)
        (make_first (healer w) (world_1 w) ++ (in_turn (third_phase w ∷ ps) (world_2 w) ++ rest))

  has-come : (w : World) (ps : List Phase) (rest : List Happening)
      → IsOnWay sizes start all w (in_turn (first_phase w ∷ make_first (healer w) ∷ third_phase w ∷ ps) w ++ rest)
      → MayHeal w → HasCome w ps rest
  has-come w ps rest on may =
      let l : ℕ = healer w in
      let on0 = turn-on sizes start all (first_phase w) (make_first l ∷ third_phase w ∷ ps) w rest on in
      let g = on-way sizes start all w _ on0 in
      let cl = (healer-highest w (family-of (KnownAt sizes start all) w g)).0 in
      let comes = leader-comes w l cl may.goes may.views in
      let made = made-after w (first_phase w w) in
      record {
        reached = g;
        leads = comes.0;
        came = comes.1;
        over = over-told l w (world_1 w) (comes.1.rest l (same-correct w (world_1 w) made l ∙ cl)).taken;
        on = turn-on sizes start all (make_first l) (third_phase w ∷ ps) (world_1 w) rest
            (way-past sizes start all (first_phase w w) _ w on0 comes.1.ran);
      }

  -- where genesis doesn't justify the lock
  stage-above : (w : World) (ps : List Phase) (rest : List Happening) → HasCome w ps rest → MayHeal w
      → 0 < length (ground_of w) → AreStaged w (highest_voted w (correct_replicas w))
  stage-above w ps rest h may up =
      let Known = KnownAt sizes start all in
      let l : ℕ = healer w in
      let v : ℕ = view_to_come l w in
      let w1 : World = world_1 w in
      let w2 : World = world_2 w in
      let w3 : World = world_3 w in
      let n = ap (λ (x : Branch). length x) h.over in
      let none = none-first l w1 (omega (arith, up, n)) in
      let passes2 : Passes w1 (make_first l w1) = subst (Passes w1) (sym none) (passes-none w1) in
      let still : w2 ≡ w1 = ap (after w1) none ∙ after-none w1 in
      let came2 : CameTo v w w2 = subst (CameTo v w) (sym still) h.came in
      let made2 = made-both w w1 w2 (made-after w (first_phase w w)) (made-after w1 (make_first l w1)) in
      let on2 = turn-on sizes start all (third_phase w) ps w2 rest
      (way-past sizes start all (make_first l w1) _ w1 h.on passes2) in
      let bring = may-bring Known w h.reached may.kept may.room v w2 may.keys made2 came2 in
      let third = branch-brought sizes start all (ground_of w) w2 _ on2 bring in
      let g3 = on-way sizes start all w3 _ (way-past sizes start all (third_phase w w2) _ w2 on2 third.0) in
      record {
        first = h.came.ran;
        second = passes2;
        third = third.0;
        stage = staged Known w h.reached may.kept may.room v w2 w3 g3 made2 (made-after w2 (third_phase w w2)) came2
            third.1 may.keys h.leads up;
        session = third.1.session ∙ came2.session;
      }

  -- where it does
  stage-genesis : (w : World) (ps : List Phase) (rest : List Happening) → HasCome w ps rest → MayHeal w
      → ground_of w ≡ [] → AreStaged w (suc (highest_voted w (correct_replicas w)))
  stage-genesis w ps rest h may low =
      let l : ℕ = healer w in
      let v : ℕ = view_to_come l w in
      let w1 : World = world_1 w in
      let w2 : World = world_2 w in
      let top : ℕ = suc (highest_voted w (correct_replicas w)) in
      let cl = (healer-highest w (family-of (KnownAt sizes start all) w h.reached)).0 in
      let one = first-staged sizes start all w h.reached may.room low v w1 _ h.on (made-after w (first_phase w w))
      may.keys h.came h.leads (h.over ∙ low) in
      let none : third_phase w w2 ≡ [] = ap (λ (x : Branch). fetch_all (lowest_first x) w2) low ∙ fetch-none w2 in
      let still : world_3 w ≡ w2 = ap (after w2) none ∙ after-none w2 in
      let lock_is : lock_of w l ≡ [] = locks-nil sizes start all w h.reached may.room low l cl in
      record {
        first = h.came.ran;
        second = one.0;
        third = subst (Passes w2) (sym none) (passes-none w2);
        stage = subst (λ (z : World). IsStaged z l v top (lock_of w l)) (sym still)
            (subst (λ (x : Branch). IsStaged w2 l v top x) (sym lock_is) one.1.stage);
        session = ap (λ (z : World). z.session) still ∙ (one.1.session ∙ h.came.session);
      }

  -- what the last two phases leave
  agreed : (w : World) (rest : List Happening) (k client top : ℕ) → IsOnWay sizes start all w (agree_on k w ++ rest)
      → ShareKeys w → (asked : IsAsked w k client) → AreStaged w top
      → IsExecutedByAll w (after w (agree_on k w)) k asked.command
  unfolding agree_on
  agreed w rest k client top on keys asked s =
      let Known = KnownAt sizes start all in
      let l : ℕ = healer w in
      let v : ℕ = view_to_come l w in
      let m : Branch = lock_of w l in
      let c : Command = asked.command in
      let w1 : World = world_1 w in
      let w2 : World = world_2 w in
      let w3 : World = world_3 w in
      let end3 : List Phase = last_phases k w in
      let end2 : List Phase = third_phase w ∷ end3 in
      let end1 : List Phase = make_first l ∷ end2 in
      let climb : Phase = λ z. rounds (to_climb l z) l z in
      let on0 = turn-on sizes start all (first_phase w) end1 w rest on in
      let g = on-way sizes start all w _ on0 in
      let on1 = turn-on sizes start all (make_first l) end2 w1 rest
      (way-past sizes start all (first_phase w w) _ w on0 s.first) in
      let on2 = turn-on sizes start all (third_phase w) end3 w2 rest
      (way-past sizes start all (make_first l w1) _ w1 on1 s.second) in
      let told : Phase = lead_with k l (digest_of m) in
      let on3 = turn-on sizes start all told (climb ∷ []) w3 rest
      (way-past sizes start all (third_phase w w2) _ w2 on2 s.third) in
      let g3 = on-way sizes start all w3 _ on3 in
      let made1 = made-after w (first_phase w w) in
      let made2 = made-after w1 (make_first l w1) in
      let made3 = made-after w2 (third_phase w w2) in
      let made = made-both w w1 w3 made1 (made-both w1 w2 w3 made2 made3) in
      let own = asked-wanted w k client keys g.requests asked in
      let wanted1 = wanted-after w (first_phase w w) k c made1 own.0 in
      let wanted2 = wanted-after w1 (make_first l w1) k c made2 wanted1 in
      let wanted3 = wanted-after w2 (third_phase w w2) k c made3 wanted2 in
      let lock3 = s.stage.lock_is in
      let told3 : Phase = lead_with k l (digest_of (lock_of w3 l)) in
      let same : told w3 ≡ told3 w3 = ap (λ (x : Branch). lead_with k l (digest_of x) w3) (sym lock3) in
      let ready3 = ready sizes start all w3 _ k l v top c
      (subst (λ (x : List Happening). IsOnWay sizes start all w3 (x ++ (in_turn (climb ∷ []) (after w3
      (told w3)) ++ rest)))
      same on3)
      (subst (λ (x : Branch). IsStaged w3 l v top x) (sym lock3) s.stage) wanted3 in
      let w4 : World = after w3 (told w3) in
      let r : IsReady w3 w4 l v m c =
      subst (λ (x : Branch). IsReady w3 w4 l v x c) lock3
      (subst (λ (x : List Happening). IsReady w3 (after w3 x) l v (lock_of w3 l) c) (sym same) ready3.1) in
      let passes4 : Passes w3 (told w3) = subst (Passes w3) (sym same) ready3.0 in
      let on4 = turn-on sizes start all climb [] w4 rest (way-past sizes start all (told w3) _ w3 on3 passes4) in
      let n : ℕ = to_climb l w4 in
      let d = rounds-decided sizes start all w4 _ l v n 0 m on4 r.may r.limit in
      let x : Branch = d.0 in
      let h = d.1 in
      let w5 : World = after w4 (climb w4) in
      let sessions : (w3.session client).used ≡ c.seq =
      ap (λ (z : ℕ → Session). (z client).used) s.session ∙ sym asked.seq in
      let used : c.seq ≡ (w3.session c.client).used =
      sym sessions ∙ ap (λ (i : ℕ). (w3.session i).used) (sym own.1) in
      let honest : w3.is_faulty (client_party c.client) ≡ false =
      ap (λ (f : ℕ → Bool). f (client_party c.client)) made.faulty
      ∙ (ap (λ (i : ℕ). w.is_faulty (client_party i)) own.1 ∙ asked.correct) in
      let carries : Carries x c = elim r.waits [
        | inl f ↦ carries-over x m c h.over (subst (λ (y : Branch). Carries y c) lock3
            (lock-carries Known w3 g3 l s.stage.correct c honest used own.2 f))
        | inr e ↦ h.carries c (subst (λ (q : List Command). Among c q) (sym e) (inl refl))
            (let k = ap (λ (q : List Command). length q) e in omega (arith, k))
      ] in
      let none = turns-none w5 in
      let five = turn-passes climb [] w4 h.ran none.0 in
      let four = turn-passes told (climb ∷ []) w3 passes4 five in
      let three = turn-passes (third_phase w) end3 w2 s.third four in
      let two = turn-passes (make_first l) end2 w1 s.second three in
      let ran = turn-passes (first_phase w) end1 w s.first two in
      let ends : after w (agree_on k w) ≡ w5 =
      turn-after (first_phase w) end1 w
      ∙ (turn-after (make_first l) end2 w1
      ∙ (turn-after (third_phase w) end3 w2
      ∙ (turn-after told (climb ∷ []) w3 ∙ (turn-after climb [] w4 ∙ none.1)))) in
      subst (λ (z : World). IsExecutedByAll w z k c) (sym ends) (record {
        ran = ran ∙ ap (λ (z : World). Ok z) ends;
        going_on = h.going_on;
        executed_there = λ i ci. carries-over (executed (chronicle_of w5 i)) x c (h.decided i ci) carries;
        session = h.session ∙ (r.session ∙ s.session);
      })

  pub request-executed : (w : World) (rest : List Happening) (k client : ℕ)
      → IsOnWay sizes start all w (agree_on k w ++ rest) → MayHeal w → (asked : IsAsked w k client)
      → IsExecutedByAll w (after w (agree_on k w)) k asked.command
  unfolding agree_on
  request-executed w rest k client on may asked =
      let come = has-come w (last_phases k w) rest on may in
      elim (cases_lt 0 (length (ground_of w))) [
        | inl up ↦ agreed w rest k client (highest_voted w (correct_replicas w)) on may.keys asked
            (stage-above w (last_phases k w) rest come may up)
        | inr z ↦ agreed w rest k client (suc (highest_voted w (correct_replicas w))) on may.keys asked
            (stage-genesis w (last_phases k w) rest come may (nil (ground_of w) (omega (arith, z))))
      ]

pub requests-executed : RequestsAreExecuted
requests-executed k client sizes is_faulty ring hs w met e may asked =
    let start : World = new_world sizes is_faulty ring in
    let all : List Happening = hs ++ agree_on k w in
    let on = subst (IsOnWay sizes start all w) (sym (append-nil (agree_on k w)))
    (on-way-from sizes is_faulty ring hs (agree_on k w) w met e) in
    request-executed sizes start all w [] k client on may asked
