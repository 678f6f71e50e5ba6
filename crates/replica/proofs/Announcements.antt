-- What a timeout and an announced view change is what their steps change.
use Rattle.ids.specs.declared.fault.Fault.{Fault}
use Rattle.ids.specs.declared.fault.Fault.TheVariants as fault
use Rattle.std.proofs.Common.{ℕ, ◌≡◌, ◌<◌, Bool, true, false, true≢false, [], ◌∷◌, length, cond}
use Rattle.std.proofs.Common.{nat_lt, refl, sym, ap, ◌∙◌, subst, Option, Some, None, Result, Err, IfOk}
use Rattle.std.proofs.Common.{OnErr}
use Rattle.std.specs.Option.{unwrap_or}
use Rattle.std.specs.Prelude.{IsTrue, ◌↔◌}
use Rattle.std.proofs.lemmas.Bool.{lt-ltb, ltb-true, false_from_ne_true}
use Rattle.ids.specs.Sizes.{Sizes}
use Rattle.definitions.specs.Branches.{Branch}
use Rattle.definitions.specs.Keyrings.{Keys}
use Rattle.definitions.specs.Checks.{identity_of}
use Rattle.definitions.specs.Trees.{blocks, find_in}
use Rattle.definitions.specs.Chronicles.{window}
use Rattle.definitions.specs.Chronicles.{Note, Step.noted, Note.got_new_view, Note.timed_out, Chronicle}
use Rattle.definitions.specs.Chronicles.{standing_blocks, Note.seen_view, IsSound}
use Rattle.definitions.specs.States.{Justified, view, qc_high, find_block, raised, leaf}
use Rattle.definitions.specs.Rulings.{Input.timeout_in, Input.new_view_in, Input.view_in, Ruling, ruling}
use Rattle.definitions.specs.Rulings.{conflicts}
use Rattle.definitions.specs.Rulings.{with_block}
use Rattle.definitions.specs.Rulings as rulings
use Rattle.definitions.specs.Sendings.{Sending, to_all, new_view_frame, sendings}
use Rattle.definitions.proofs.Sound.{OnStands, ruling-sound}
use Rattle.definitions.proofs.Trees.{found-in}
use Rattle.pacemaker.specs.Pacing.{Pace, IsPaceOf}
use Rattle.replica_rules.specs.declared.block_ref.BlockRef.{BlockRef}
use Rattle.replica_rules.specs.Ruled.{ref_of}
use Rattle.replica.specs.declared.change.Change.{Change}
use Rattle.replica.specs.declared.state.High.{High}
use Rattle.replica.specs.declared.stored.GotNewView.{GotNewView}
use Rattle.replica.specs.declared.stored.SeenView.{SeenView}
use Rattle.replica.specs.Replay.{or_genesis}
use Rattle.replica.specs.Steps.{shown}
use Rattle.replica.specs.Kept.{Variables, StateParts, high_of, variables_of, IsStateOf}
use Rattle.replica.specs.Changes.{changed_variables, raise_of, IsStep}
use Rattle.replica.specs.Announcements.{new_view_sent, timeout_change, IsTimeout, new_view_change}
use Rattle.replica.specs.Announcements.{IsAnnounced, IsNewViewAt, IsNewView}
use Rattle.replica.specs.Announcements.{seen_view_change, IsSeen}
use Rattle.replica.specs.StepsTo.{Follows, StepsTo, answer, after}
use Rattle.replica.proofs.Steps.{collects, asks, refused, or-memory, decided}
use Rattle.replica.proofs.Stays.{shown-if, qc-same, AreHigh, raise-is, variables-calm, variables-noted}

-- ---- a timeout

-- the view after a note, by the pace
view-after : (keys : Keys) (c : Chronicle) (p : Pace) → p.sizes ≡ keys.sizes → IsPaceOf c p
    → p.view ≡ view keys.sizes c
view-after keys c p e h = h.view ∙ ap (λ (s : Sizes). view s c) e

timeout-sent : (keys : Keys) (c : Chronicle)
    → new_view_sent keys (view keys.sizes (noted timed_out ∷ c))
    (qc_high keys.sizes (noted timed_out ∷ c)).certificate ∷ []
    ≡ shown (sendings (identity_of keys) (noted timed_out) c)
unfolding sendings Rattle.definitions.specs.Sendings.new_view_frame
timeout-sent keys c = refl

qc-timeout : (s : Sizes) (c : Chronicle) → qc_high s (noted timed_out ∷ c) ≡ qc_high s c
unfolding qc_high raised
qc-timeout s c = refl

timeout-step : (keys : Keys) (c : Chronicle) (s : StateParts) (d : Change) → IsStateOf keys c s
    → IsTimeout keys s d → IsStep keys c (noted timed_out) s.pace d
unfolding raised
timeout-step keys c s d o t =
    let sizes : t.pace.sizes ≡ keys.sizes = t.its_pace.sizes ∙ o.sizes in
    let pace = t.its_pace.paced c timed_out refl o.pace in
    let at = view-after keys (noted timed_out ∷ c) t.pace sizes pace in
    let q : s.variables.high.certificate ≡ (qc_high keys.sizes (noted timed_out ∷ c)).certificate =
    ap (λ (v : Variables). v.high.certificate) o.same
    ∙ ap (λ (j : Justified). j.certificate) (sym (qc-timeout keys.sizes c)) in
    subst (IsStep keys c (noted timed_out) s.pace) (sym t.change)
    (record {
      variables =
          (λ i. changed_variables (timeout_change keys (record s { variables = o.same i }) t.pace)
          (variables_of keys c)) ∙ sym (variables-calm keys timed_out c refl refl refl refl);
      sizes = sizes;
      pace = pace;
      out = (λ i. new_view_sent keys (at i) (q i) ∷ []) ∙ timeout-sent keys c;
    })

pub timeout-decided : (keys : Keys) (c : Chronicle) (s : StateParts) (result : Result Change Fault)
    → IfOk result (IsTimeout keys s) → OnErr result (result ≡ Err fault.Memory) → IsStateOf keys c s
    → StepsTo keys timeout_in c (answer result) (after result s)
unfolding ruling conflicts raised
timeout-decided keys c s result made memory o =
    decided keys c (noted timed_out) s result (IsTimeout keys s)
    (ruling-sound (identity_of keys) timeout_in c tt o.sound) refl refl o tt
    (λ d t. (timeout-step keys c s d o t, ap (λ (x : Change). collects x.growth) t.change))
    (or-memory result _ made memory)

-- ---- an announced view

module _ (keys : Keys) (c : Chronicle) (n : GotNewView) (b : Branch)
    (found : find_in n.certificate.digest (window c) ≡ Some b) where
  abbrev note : Note
  note = got_new_view n.view n.sender n.certificate b

  abbrev block : BlockRef
  block = record { digest = n.certificate.digest; height = length b }

  block-is : block ≡ ref_of b
  block-is =
      λ i. record { digest = sym (found-in n.certificate.digest (window c) b found).1 i; height = length b }

  brought : raised keys.sizes (noted note) c ≡ Some (record { block = b; certificate = n.certificate })
  unfolding raised
  brought = refl

  high-is : IsSound keys.sizes (noted note ∷ c) → AreHigh keys (noted note) c
      (raise_of (record { block = block; certificate = n.certificate }) (high_of (qc_high keys.sizes c)))
  high-is so = raise-is keys (noted note) c (record { block = b; certificate = n.certificate }) block so refl refl
      brought block-is

  sent-is : cond (nat_lt (view keys.sizes c) (view keys.sizes (noted note ∷ c)))
      (new_view_sent keys (view keys.sizes (noted note ∷ c))
      (qc_high keys.sizes (noted note ∷ c)).certificate ∷ []) []
      ≡ shown (sendings (identity_of keys) (noted note) c)
  unfolding sendings Rattle.definitions.specs.Sendings.new_view_frame
  sent-is = sym (shown-if (nat_lt (view keys.sizes c) (view keys.sizes (noted note ∷ c)))
      (to_all, new_view_frame (identity_of keys) (noted note ∷ c)))

  -- the announcement as it is stored
  note-is : noted (got_new_view n.view n.sender n.certificate
      (or_genesis (find_in n.certificate.digest (blocks (standing_blocks c))))) ≡ noted note
  unfolding window
  note-is =
      ap (λ (o : Option Branch). noted (got_new_view n.view n.sender n.certificate (or_genesis o))) found

  note-sound : IsSound keys.sizes c → IsSound keys.sizes (noted note ∷ c)
  unfolding ruling find_block
  note-sound so = subst (OnStands (λ st. IsSound keys.sizes (st ∷ c)))
      (ap (λ (o : Option Branch). with_block o n.sender n.certificate.digest
      (λ x. rulings.due (noted (got_new_view n.view n.sender n.certificate x)))) found)
      (ruling-sound (identity_of keys) (new_view_in n.view n.sender n.certificate) c tt so)

  announced-step : (s : StateParts) (d : Change) → IsStateOf keys c s → IsAnnounced keys s block n d
      → IsStep keys c (noted note) s.pace d
  announced-step s d o t =
      let raises = high-is (note-sound o.sound) in
      let sizes : t.pace.sizes ≡ keys.sizes = t.its_pace.sizes ∙ o.sizes in
      let pace = t.its_pace.paced c note (n.certificate, b, refl) o.pace in
      let was = view-after keys c s.pace o.sizes o.pace in
      let at = view-after keys (noted note ∷ c) t.pace sizes pace in
      let r : High → Option High = λ h. raise_of (record { block = block; certificate = n.certificate }) h in
      let q : (unwrap_or (r s.variables.high) s.variables.high).certificate
      ≡ (qc_high keys.sizes (noted note ∷ c)).certificate =
      ap (λ (v : Variables). (unwrap_or (r v.high) v.high).certificate) o.same
      ∙ ap (λ (h : High). h.certificate) raises.high in
      subst (IsStep keys c (noted note) s.pace) (sym t.change)
      (record {
        variables = (λ i. changed_variables
            (new_view_change keys (record s { variables = o.same i }) block n t.pace) (variables_of keys c))
            ∙ (λ i. record (variables_of keys c)
            { chronicle = note-is i ∷ c; high = raises.high i; leaf = raises.its_leaf i })
            ∙ sym (variables-noted keys note c (qc_high keys.sizes (noted note ∷ c))
            (leaf (identity_of keys) (noted note ∷ c)) refl refl refl refl);
        sizes = sizes;
        pace = pace;
        out = (λ i. cond (nat_lt (was i) (at i)) (new_view_sent keys (at i) (q i) ∷ []) []) ∙ sent-is;
      })

-- by what is found
new-view-by : (keys : Keys) (c : Chronicle) (s : StateParts) (n : GotNewView) (result : Result Change Fault)
    → IsStateOf keys c s → (o : Option Branch) → find_in n.certificate.digest (window c) ≡ o
    → IsNewViewAt keys s n result o
    → Follows keys (with_block o n.sender n.certificate.digest
    (λ x. rulings.due (noted (got_new_view n.view n.sender n.certificate x)))) c (answer result)
    (after result s)
unfolding conflicts
new-view-by keys c s n result o None e h =
    refused keys _ c _ s result h (asks keys c n.sender n.certificate.digest s o)
new-view-by keys c s n result o (Some b) e h =
    decided keys c (noted (note keys c n b e)) s result _ (note-sound keys c n b e o.sound) refl refl o tt
    (λ d t. (announced-step keys c n b e s d o t, ap (λ (x : Change). collects x.growth) t.change)) h

pub new-view-decided :
    (keys : Keys) (c : Chronicle) (s : StateParts) (n : GotNewView) (result : Result Change Fault)
    → IsNewView keys s n result → IsStateOf keys c s
    → StepsTo keys (new_view_in n.view n.sender n.certificate) c (answer result) (after result s)
unfolding ruling find_block window
new-view-decided keys c s n result h o =
    let same = ap (λ (v : Variables). find_in n.certificate.digest (blocks v.stored)) o.same in
    new-view-by keys c s n result o (find_in n.certificate.digest (blocks (standing_blocks c))) refl
    (subst (IsNewViewAt keys s n result) same h)

-- ---- a view that was seen

seen-sent : (keys : Keys) (c : Chronicle) (n : SeenView) → let st = noted (seen_view n.view n.sender) in
    cond (nat_lt (view keys.sizes c) (view keys.sizes (st ∷ c)))
    (new_view_sent keys (view keys.sizes (st ∷ c)) (qc_high keys.sizes (st ∷ c)).certificate ∷ []) []
    ≡ shown (sendings (identity_of keys) st c)
unfolding sendings Rattle.definitions.specs.Sendings.new_view_frame
seen-sent keys c n =
    let st = noted (seen_view n.view n.sender) in
    sym (shown-if (nat_lt (view keys.sizes c) (view keys.sizes (st ∷ c)))
    (to_all, new_view_frame (identity_of keys) (st ∷ c)))

seen-step : (keys : Keys) (c : Chronicle) (s : StateParts) (n : SeenView) (d : Change) → IsStateOf keys c s
    → IsSeen keys s n d → IsStep keys c (noted (seen_view n.view n.sender)) s.pace d
unfolding raised
seen-step keys c s n d o t =
    let note = seen_view n.view n.sender in
    let sizes : t.pace.sizes ≡ keys.sizes = t.its_pace.sizes ∙ o.sizes in
    let pace = t.its_pace.paced c note refl o.pace in
    let was = view-after keys c s.pace o.sizes o.pace in
    let at = view-after keys (noted note ∷ c) t.pace sizes pace in
    let q : s.variables.high.certificate ≡ (qc_high keys.sizes (noted note ∷ c)).certificate =
    ap (λ (v : Variables). v.high.certificate) o.same
    ∙ ap (λ (j : Justified). j.certificate) (sym (qc-same keys.sizes (noted note) c refl refl)) in
    subst (IsStep keys c (noted note) s.pace) (sym t.change)
    (record {
      variables =
          (λ i. changed_variables (seen_view_change keys (record s { variables = o.same i }) n t.pace)
          (variables_of keys c)) ∙ sym (variables-calm keys note c refl refl refl refl);
      sizes = sizes;
      pace = pace;
      out = (λ i. cond (nat_lt (was i) (at i)) (new_view_sent keys (at i) (q i) ∷ []) []) ∙ seen-sent keys c n;
    })

pub seen-decided : (keys : Keys) (c : Chronicle) (s : StateParts) (n : SeenView) (result : Result Change Fault)
    → IfOk result (IsSeen keys s n) → OnErr result (result ≡ Err fault.Memory) → IsStateOf keys c s
    → StepsTo keys (view_in n.view n.sender) c (answer result) (after result s)
unfolding ruling conflicts raised
seen-decided keys c s n result made memory o =
    decided keys c (noted (seen_view n.view n.sender)) s result (IsSeen keys s n)
    (ruling-sound (identity_of keys) (view_in n.view n.sender) c tt o.sound) refl refl o tt
    (λ d t. (seen-step keys c s n d o t, ap (λ (x : Change). collects x.growth) t.change))
    (or-memory result _ made memory)

-- whether it moved, as a test
pub moved-is : (t : Bool) (a b : ℕ) → (IsTrue t ↔ (a < b)) → t ≡ nat_lt a b
moved-is true a b h = sym (lt-ltb a b (h.0 refl))
moved-is false a b h = sym (false_from_ne_true (nat_lt a b) (λ e. true≢false (sym (h.1 (ltb-true a b e)))))
