-- What bytes are read as is the frame that they spell, and where nothing is read they spell none.
use Rattle.std.proofs.Common.{◌≡◌, ℕ, ◌^◌, ◌<◌, Bool, true, false, [], ◌∷◌, ◌++◌, length, Option}
use Rattle.std.proofs.Common.{Some, None, refl, sym, ap, subst, ◌∙◌, append_assoc, arith, inl, inr, drop}
use Rattle.std.proofs.lemmas.Option.{same_Some}
use Rattle.std.specs.Prelude.{◌==◌, ◌⊎◌, ◌||◌, nat_le, if◌then◌else◌}
use Rattle.std.proofs.Common.{true≢false}
use Rattle.std.specs.Option.{option_and_then}
use Rattle.std.specs.Int.{w8}
use Rattle.std.proofs.lemmas.Bool.{eqb-true, eq-eqb, cases_Bool, cond-true, cond-false, leb-true, le-leb}
use Rattle.std.proofs.lemmas.Bool.{or_left, or_right}
use Rattle.std.proofs.lemmas.List.{append-nil, nil_from_length}
use Rattle.ids.specs.Numbers.{kind_number, kinds, kind_numbered}
use Rattle.ids.specs.Sizes.{Sizes, replicas}
use Rattle.ids.specs.declared.kind.Kind.{Kind}
use Rattle.ids.specs.declared.kind.Kind.TheVariants as kind
use Rattle.definitions.proofs.Lists.{find_some}
use Rattle.definitions.specs.Bytes.{Bytes}
use Rattle.definitions.specs.Frames.{Command, Core, Vote, Certificate, Frame, request, proposal, vote}
use Rattle.definitions.specs.Frames.{new_view, reply, fetch, block, kind_of, old_spelling, spelling, is_marked}
use Rattle.definitions.specs.FrameLimits.{IsFrame, IsCut, CarriesCut, Spells, IsReadAs}
use Rattle.ids.specs.declared.limits.TheConstants.{VERSION_TWO, MOST_FAULTS_OF_VERSION_ONE}
use Rattle.frames_view.specs.Readings.{Reader, number, made}
use Rattle.frames_view.specs.Parts.{proposal_in, vote_frame_in, new_view_in, reply_in, fetch_in, block_in}
use Rattle.frames_view.specs.Parts.{command_in, kind_in, old_frame_in, new_frame_in, frame_in, is_cut}
use Rattle.frames_view.specs.Parts.{carries_cut}
use Rattle.frames_view.proofs.Exact.{IsBytes, IsBytes-right, IsExact, IsExact-byte, IsExact-both}
use Rattle.frames_view.proofs.Exact.{and_then_parts, map_parts, guard_true}
use Rattle.frames_view.proofs.Parts.{AreFew, IsExact-digest, IsExact-party, IsExact-vector, IsExact-long}
use Rattle.frames_view.proofs.Parts.{IsExact-positive, IsExact-text, IsExact-vote, IsExact-certificate}
use Rattle.frames_view.proofs.Parts.{IsExact-command, IsExact-core}

-- ---- a frame is made of its fields

-- what is made of fields that are read exactly
module _ (sizes : Sizes) {X : Type 0} (P : X → Type 0) (spell : X → Bytes) (read : Reader X)
    (exact : IsExact P spell read) (make : X → Frame) (kind : ℕ)
    (good : (x : X) → P x → IsFrame sizes (make x) × (kind ∷ spell x ≡ old_spelling (make x))) where
  made_found : (bytes : Bytes) (f : Frame) (rest : Bytes) → IsBytes bytes
      → made make read bytes ≡ Some (f, rest) → IsFrame sizes f × (kind ∷ bytes ≡ old_spelling f ++ rest)
  made_found bytes f rest fits e =
      let a = map_parts (λ x. (make x.0, x.1)) (read bytes) (f, rest) e in
      let x = a.0 in
      let g = exact.found bytes x.0 x.1 fits a.1 in
      let h = good x.0 g.0 in
      let parts : kind ∷ bytes ≡ old_spelling (make x.0) ++ x.1 =
      ap (λ (l : Bytes). kind ∷ l) g.1 ∙ ap (λ (l : Bytes). l ++ x.1) h.1 in
      subst (λ (p : Frame × Bytes). IsFrame sizes p.0 × (kind ∷ bytes ≡ old_spelling p.0 ++ p.1)) a.2 (h.0, parts)

  made_again : (x : X) → P x → (bytes : Bytes) → kind ∷ bytes ≡ old_spelling (make x)
      → made make read bytes ≡ Some (make x, [])
  made_again x h bytes e =
      let whole : bytes ≡ spell x ++ [] = ap (drop 1) (e ∙ sym (good x h).1) ∙ sym (append-nil (spell x)) in
      ap (made make read) whole ∙ rw (exact.again x [] h) refl

module _ (sizes : Sizes) (are : AreFew sizes) where
  abbrev Found : ℕ → Reader Frame → Type 0
  Found kind read =
      (bytes : Bytes) (f : Frame) (rest : Bytes) → IsBytes bytes → read bytes ≡ Some (f, rest)
      → IsFrame sizes f × (kind ∷ bytes ≡ old_spelling f ++ rest)

  abbrev Again : ℕ → Reader Frame → Frame → Type 0
  Again kind read f = (bytes : Bytes) → kind ∷ bytes ≡ old_spelling f → read bytes ≡ Some (f, [])

  few : replicas sizes < 2 ^ 16
  few = omega (arith, are.0)

  few_clients : sizes.clients < 2 ^ 16
  few_clients = omega (arith, are.1)

  -- ---- request
  request_found : Found 1 (made request (command_in (replicas sizes) sizes.clients))
  request_found = made_found sizes _ _ _ (IsExact-command sizes are) request 1 (λ c h. (h, refl))

  request_again : (c : Command) → IsFrame sizes (request c)
      → Again 1 (made request (command_in (replicas sizes) sizes.clients)) (request c)
  request_again c h = made_again sizes _ _ _ (IsExact-command sizes are) request 1 (λ c h. (h, refl)) c h

  -- ---- vote
  vote_frame_found : Found 3 (vote_frame_in sizes)
  unfolding vote_frame_in
  vote_frame_found = made_found sizes _ _ _
      (IsExact-both _ _ _ IsExact-digest _ _ _ (IsExact-vote sizes are)) (λ p. vote p.0 p.1) 3
      (λ p h. ((h.0, h.1), simp append_assoc))

  vote_frame_again : (digest : Bytes) (v : Vote) → IsFrame sizes (vote digest v)
      → Again 3 (vote_frame_in sizes) (vote digest v)
  unfolding vote_frame_in
  vote_frame_again digest v h =
      made_again sizes _ _ _ (IsExact-both _ _ _ IsExact-digest _ _ _ (IsExact-vote sizes are))
      (λ p. vote p.0 p.1) 3 (λ p h. ((h.0, h.1), simp append_assoc)) (digest, v) (h.0, h.1)

  -- ---- proposal
  proposal_found : Found 2 (proposal_in sizes)
  unfolding proposal_in
  proposal_found = made_found sizes _ _ _ (IsExact-both _ _ _ IsExact-long _ _ _
      (IsExact-both _ _ _ (IsExact-core sizes are) _ _ _
      (IsExact-both _ _ _ (IsExact-certificate sizes are) _ _ _ (IsExact-vector (replicas sizes)))))
      (λ p. proposal p.0 p.1.0 p.1.1.0 p.1.1.1) 2
      (λ p h. ((h.0, h.1.0, h.1.1.0, h.1.1.1), simp append_assoc))

  proposal_again : (view : ℕ) (k : Core) (q : Certificate) (vector : Bytes)
      → IsFrame sizes (proposal view k q vector) → Again 2 (proposal_in sizes) (proposal view k q vector)
  unfolding proposal_in
  proposal_again view k q vector h =
      made_again sizes _ _ _ (IsExact-both _ _ _ IsExact-long _ _ _
      (IsExact-both _ _ _ (IsExact-core sizes are) _ _ _
      (IsExact-both _ _ _ (IsExact-certificate sizes are) _ _ _ (IsExact-vector (replicas sizes)))))
      (λ p. proposal p.0 p.1.0 p.1.1.0 p.1.1.1) 2
      (λ p h. ((h.0, h.1.0, h.1.1.0, h.1.1.1), simp append_assoc)) (view, (k, (q, vector)))
      (h.0, (h.1, (h.2, h.3)))

  -- ---- new_view
  new_view_found : Found 4 (new_view_in sizes)
  unfolding new_view_in
  new_view_found = made_found sizes _ _ _ (IsExact-both _ _ _ IsExact-long _ _ _
      (IsExact-both _ _ _ (IsExact-party (replicas sizes) few) _ _ _
      (IsExact-both _ _ _ (IsExact-certificate sizes are) _ _ _ (IsExact-vector (replicas sizes)))))
      (λ p. new_view p.0 p.1.0 p.1.1.0 p.1.1.1) 4
      (λ p h. ((h.0, h.1.0, h.1.1.0, h.1.1.1), simp append_assoc))

  new_view_again : (view sender : ℕ) (q : Certificate) (vector : Bytes)
      → IsFrame sizes (new_view view sender q vector)
      → Again 4 (new_view_in sizes) (new_view view sender q vector)
  unfolding new_view_in
  new_view_again view sender q vector h =
      made_again sizes _ _ _ (IsExact-both _ _ _ IsExact-long _ _ _
      (IsExact-both _ _ _ (IsExact-party (replicas sizes) few) _ _ _
      (IsExact-both _ _ _ (IsExact-certificate sizes are) _ _ _ (IsExact-vector (replicas sizes)))))
      (λ p. new_view p.0 p.1.0 p.1.1.0 p.1.1.1) 4
      (λ p h. ((h.0, h.1.0, h.1.1.0, h.1.1.1), simp append_assoc)) (view, (sender, (q, vector)))
      (h.0, (h.1, (h.2, h.3)))

  -- ---- reply
  reply_found : Found 5 (reply_in sizes)
  unfolding reply_in
  reply_found = made_found sizes _ _ _ (IsExact-both _ _ _ (IsExact-party (replicas sizes) few) _ _ _
      (IsExact-both _ _ _ (IsExact-party sizes.clients few_clients) _ _ _
      (IsExact-both _ _ _ IsExact-positive _ _ _ (IsExact-both _ _ _ IsExact-positive _ _ _
      (IsExact-both _ _ _ IsExact-text _ _ _ IsExact-digest)))))
      (λ p. reply p.0 p.1.0 p.1.1.0 p.1.1.1.0 p.1.1.1.1.0 p.1.1.1.1.1) 5
      (λ p h. ((h.0, h.1.0, h.1.1.0, h.1.1.1.0, h.1.1.1.1.0, h.1.1.1.1.1), simp append_assoc))

  reply_again : (replica client seq place : ℕ) (text tag : Bytes)
      → IsFrame sizes (reply replica client seq place text tag)
      → Again 5 (reply_in sizes) (reply replica client seq place text tag)
  unfolding reply_in
  reply_again replica client seq place text tag h =
      made_again sizes _ _ _ (IsExact-both _ _ _ (IsExact-party (replicas sizes) few) _ _ _
      (IsExact-both _ _ _ (IsExact-party sizes.clients few_clients) _ _ _
      (IsExact-both _ _ _ IsExact-positive _ _ _ (IsExact-both _ _ _ IsExact-positive _ _ _
      (IsExact-both _ _ _ IsExact-text _ _ _ IsExact-digest)))))
      (λ p. reply p.0 p.1.0 p.1.1.0 p.1.1.1.0 p.1.1.1.1.0 p.1.1.1.1.1) 5
      (λ p h. ((h.0, h.1.0, h.1.1.0, h.1.1.1.0, h.1.1.1.1.0, h.1.1.1.1.1), simp append_assoc))
      (replica, (client, (seq, (place, (text, tag))))) (h.0, (h.1, (h.2, (h.3, (h.4, h.5)))))

  -- ---- fetch
  fetch_found : Found 6 (fetch_in sizes)
  unfolding fetch_in
  fetch_found = made_found sizes _ _ _ (IsExact-both _ _ _ (IsExact-party (replicas sizes) few) _ _ _
      (IsExact-both _ _ _ IsExact-digest _ _ _ IsExact-digest)) (λ p. fetch p.0 p.1.0 p.1.1) 6
      (λ p h. ((h.0, h.1.0, h.1.1), simp append_assoc))

  fetch_again : (sender : ℕ) (digest tag : Bytes) → IsFrame sizes (fetch sender digest tag)
      → Again 6 (fetch_in sizes) (fetch sender digest tag)
  unfolding fetch_in
  fetch_again sender digest tag h =
      made_again sizes _ _ _ (IsExact-both _ _ _ (IsExact-party (replicas sizes) few) _ _ _
      (IsExact-both _ _ _ IsExact-digest _ _ _ IsExact-digest)) (λ p. fetch p.0 p.1.0 p.1.1) 6
      (λ p h. ((h.0, h.1.0, h.1.1), simp append_assoc)) (sender, (digest, tag)) (h.0, (h.1, h.2))

  -- ---- block
  block_found : Found 7 (block_in sizes)
  unfolding block_in
  block_found = made_found sizes _ _ _ (IsExact-both _ _ _ (IsExact-party (replicas sizes) few) _ _ _
      (IsExact-both _ _ _ (IsExact-core sizes are) _ _ _
      (IsExact-both _ _ _ (IsExact-certificate sizes are) _ _ _ IsExact-digest)))
      (λ p. block p.0 p.1.0 p.1.1.0 p.1.1.1) 7 (λ p h. ((h.0, h.1.0, h.1.1.0, h.1.1.1), simp append_assoc))

  block_again : (sender : ℕ) (k : Core) (q : Certificate) (tag : Bytes)
      → IsFrame sizes (block sender k q tag) → Again 7 (block_in sizes) (block sender k q tag)
  unfolding block_in
  block_again sender k q tag h =
      made_again sizes _ _ _ (IsExact-both _ _ _ (IsExact-party (replicas sizes) few) _ _ _
      (IsExact-both _ _ _ (IsExact-core sizes are) _ _ _
      (IsExact-both _ _ _ (IsExact-certificate sizes are) _ _ _ IsExact-digest)))
      (λ p. block p.0 p.1.0 p.1.1.0 p.1.1.1) 7 (λ p h. ((h.0, h.1.0, h.1.1.0, h.1.1.1), simp append_assoc))
      (sender, (k, (q, tag))) (h.0, (h.1, (h.2, h.3)))

  -- ---- any frame

  kind_found : (k : Kind) → Found (kind_number k) (kind_in sizes k)
  unfolding kind_in
  kind_found kind.Request = request_found
  kind_found kind.Proposal = proposal_found
  kind_found kind.Vote = vote_frame_found
  kind_found kind.NewView = new_view_found
  kind_found kind.Reply = reply_found
  kind_found kind.Fetch = fetch_found
  kind_found kind.Block = block_found

  -- a frame of version 1 that is read is spelled so
  old_frame_found : (bytes : Bytes) (f : Frame) → IsBytes bytes → old_frame_in sizes bytes ≡ Some f
      → IsFrame sizes f × (bytes ≡ old_spelling f)
  unfolding old_frame_in
  old_frame_found bytes f fits e =
      let a = and_then_parts _ (number w8 bytes) f e in
      let first = IsExact-byte.found bytes a.0.0 a.0.1 fits a.1 in
      let k = and_then_parts _ (kind_numbered a.0.0) f a.2 in
      let named : a.0.0 ≡ kind_number k.0 =
      sym (eqb-true _ _ (find_some (λ x. kind_number x == a.0.0) kinds k.0 k.1).1) in
      let b = and_then_parts _ (kind_in sizes k.0 a.0.1) f k.2 in
      let g = b.0 in
      let t = guard_true (length g.1 == 0) (Some g.0) f b.2 in
      let none : g.1 ≡ [] = nil_from_length g.1 (eqb-true _ _ t.0) in
      let same : g.0 ≡ f = same_Some g.0 f t.1 in
      let left = IsBytes-right (a.0.0 ∷ []) a.0.1 (subst IsBytes first.1 fits) in
      let h = kind_found k.0 a.0.1 g.0 g.1 left b.1 in
      let whole : bytes ≡ old_spelling g.0 =
      first.1 ∙ ap (λ (n : ℕ). n ∷ a.0.1) named
      ∙ (h.1 ∙ (ap (λ (l : Bytes). old_spelling g.0 ++ l) none ∙ append-nil (old_spelling g.0))) in
      subst (λ (x : Frame). IsFrame sizes x × (bytes ≡ old_spelling x)) same (h.0, whole)

  -- the kind of its number
  number_of : (k : Kind) → (kind_number k < 256) × (kind_numbered (kind_number k) ≡ Some k)
  number_of kind.Request = (omega arith, refl)
  number_of kind.Proposal = (omega arith, refl)
  number_of kind.Vote = (omega arith, refl)
  number_of kind.NewView = (omega arith, refl)
  number_of kind.Reply = (omega arith, refl)
  number_of kind.Fetch = (omega arith, refl)
  number_of kind.Block = (omega arith, refl)

  -- so many bytes behind a kind that are a frame of it, all of them
  again_by : (k : Kind) (f : Frame) (bytes : Bytes) → kind_in sizes k bytes ≡ Some (f, [])
      → old_frame_in sizes (kind_number k ∷ bytes) ≡ Some f
  unfolding old_frame_in
  again_by k f bytes e =
      let n = number_of k in rw (IsExact-byte.again (kind_number k) bytes n.0, n.1, e) refl

  -- a frame that is spelled in version 1 is read
  old_frame_again : (f : Frame) → IsFrame sizes f → old_frame_in sizes (old_spelling f) ≡ Some f
  unfolding kind_in
  old_frame_again (request c) h = again_by kind.Request (request c) _ (request_again c h _ refl)
  old_frame_again (proposal view k q vector) h =
      again_by kind.Proposal (proposal view k q vector) _ (proposal_again view k q vector h _ refl)
  old_frame_again (vote digest v) h = again_by kind.Vote (vote digest v) _ (vote_frame_again digest v h _ refl)
  old_frame_again (new_view view sender q vector) h =
      again_by kind.NewView (new_view view sender q vector) _ (new_view_again view sender q vector h _ refl)
  old_frame_again (reply replica client seq place text tag) h =
      again_by kind.Reply (reply replica client seq place text tag) _
      (reply_again replica client seq place text tag h _ refl)
  old_frame_again (fetch sender digest tag) h =
      again_by kind.Fetch (fetch sender digest tag) _ (fetch_again sender digest tag h _ refl)
  old_frame_again (block sender k q tag) h =
      again_by kind.Block (block sender k q tag) _ (block_again sender k q tag h _ refl)

  -- ---- in either version

  -- one of two passes
  either : (x y : Bool) → (x || y) ≡ true → (x ≡ true) ⊎ (y ≡ true)
  either true y e = inl refl
  either false y e = inr e

  -- the test of what a frame carries
  cut_found : (q : Certificate) → is_cut sizes q ≡ true → IsCut sizes q
  cut_found q e = elim (either _ _ e) [ inl a ↦ inl (eqb-true _ _ a) | inr a ↦ inr (eqb-true _ _ a) ]

  cut_again : (q : Certificate) → IsCut sizes q → is_cut sizes q ≡ true
  cut_again q (inl e) = or_left _ _ (eq-eqb _ _ e)
  cut_again q (inr e) = or_right _ _ (eq-eqb _ _ e)

  carried_found : (f : Frame) → carries_cut sizes f ≡ true → CarriesCut sizes f
  carried_found (proposal view k q vector) e = cut_found q e
  carried_found (new_view view sender q vector) e = cut_found q e
  carried_found (block sender k q tag) e = cut_found q e
  carried_found (request c) e = tt
  carried_found (vote digest v) e = tt
  carried_found (reply replica client seq place text tag) e = tt
  carried_found (fetch sender digest tag) e = tt

  carried_again : (f : Frame) → CarriesCut sizes f → carries_cut sizes f ≡ true
  carried_again (proposal view k q vector) h = cut_again q h
  carried_again (new_view view sender q vector) h = cut_again q h
  carried_again (block sender k q tag) h = cut_again q h
  carried_again (request c) h = refl
  carried_again (vote digest v) h = refl
  carried_again (reply replica client seq place text tag) h = refl
  carried_again (fetch sender digest tag) h = refl

  -- bytes that begin with the mark
  marked : (bytes : Bytes) → is_marked bytes ≡ true → bytes ≡ VERSION_TWO ∷ drop 1 bytes
  marked [] e = absurd (true≢false (sym e))
  marked (x ∷ bytes) e = ap (λ (n : ℕ). n ∷ bytes) (eqb-true x VERSION_TWO e)

  -- what is read behind the mark
  new_frame_found : (bytes : Bytes) (f : Frame) → IsBytes bytes → is_marked bytes ≡ true
      → new_frame_in sizes (drop 1 bytes) ≡ Some f → Spells sizes bytes f
  unfolding new_frame_in
  new_frame_found bytes f fits m e =
      let begins = marked bytes m in
      let a = and_then_parts _ (old_frame_in sizes (drop 1 bytes)) f e in
      let t = guard_true (carries_cut sizes a.0) (Some a.0) f a.2 in
      let left = IsBytes-right (VERSION_TWO ∷ []) (drop 1 bytes) (subst IsBytes begins fits) in
      let h = old_frame_found (drop 1 bytes) a.0 left a.1 in
      subst (Spells sizes bytes) (same_Some a.0 f t.1)
      (h.0, inr (carried_found a.0 t.0, begins ∙ ap (λ (l : Bytes). VERSION_TWO ∷ l) h.1))

  -- a frame that is read is spelled so
  pub frame_found : (bytes : Bytes) (f : Frame) → IsBytes bytes → frame_in sizes bytes ≡ Some f
      → Spells sizes bytes f
  unfolding frame_in
  frame_found bytes f fits e =
      elim (cases_Bool (is_marked bytes)) [
        | inl m ↦ new_frame_found bytes f fits m (sym (cond-true _ _ _ m) ∙ e)
        | inr m ↦ (let t = guard_true (nat_le sizes.faults MOST_FAULTS_OF_VERSION_ONE) (old_frame_in sizes bytes) f
            (sym (cond-false _ _ _ m) ∙ e) in
            let h = old_frame_found bytes f fits t.1 in (h.0, inl (leb-true _ _ t.0, h.1)))
      ]

  -- no kind is the mark
  unmarked : (k : Kind) → (kind_number k == VERSION_TWO) ≡ false
  unmarked kind.Request = refl
  unmarked kind.Proposal = refl
  unmarked kind.Vote = refl
  unmarked kind.NewView = refl
  unmarked kind.Reply = refl
  unmarked kind.Fetch = refl
  unmarked kind.Block = refl

  -- a frame that is spelled is read
  pub frame_again : (bytes : Bytes) (f : Frame) → Spells sizes bytes f → frame_in sizes bytes ≡ Some f
  unfolding frame_in new_frame_in
  frame_again bytes f (h, inl (low, e)) =
      let there : frame_in sizes (old_spelling f) ≡ Some f =
      cond-false _ _ _ (unmarked (kind_of f)) ∙ (cond-true _ _ _ (le-leb _ _ low) ∙ old_frame_again f h) in
      ap (frame_in sizes) e ∙ there
  frame_again bytes f (h, inr (c, e)) =
      let there : frame_in sizes (spelling f) ≡ Some f =
      ap (option_and_then (λ x. if carries_cut sizes x then Some x else None)) (old_frame_again f h)
      ∙ cond-true _ _ _ (carried_again f c) in
      ap (frame_in sizes) e ∙ there

  -- what reading gives is what the bytes are read as
  pub is_read : (bytes : Bytes) (o : Option Frame) → IsBytes bytes → o ≡ frame_in sizes bytes
      → IsReadAs sizes bytes o
  is_read bytes (Some f) fits e = frame_found bytes f fits (sym e)
  is_read bytes None fits e = λ f h. let there = frame_again bytes f h in absurd (cc (there, e))
