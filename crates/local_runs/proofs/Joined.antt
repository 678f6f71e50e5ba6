-- Deeds of one event behind those of others, and what a world has of one party.
use Rattle.std.proofs.Common.{ℕ, ◌≡◌, ◌==◌, Bool, true, false, List, [], ◌∷◌, ◌++◌, map, filter, cond, refl, sym, ap}
use Rattle.std.proofs.Common.{◌∙◌, append_assoc}
use Rattle.std.proofs.lemmas.Bool.{cond-true, cond-false}
use Rattle.std.proofs.lemmas.List.{append-nil, map-append}
use Rattle.std.proofs.lemmas.List.Elements.{filter-append}
use Rattle.definitions.specs.Sendings.{Sending}
use Rattle.definitions.specs.Sessions.{Receipt}
use Rattle.definitions.specs.Worlds.{Sent, AcceptedBy, Happening}
use Rattle.definitions.specs.Events.{party_of}
use Rattle.local_runs.specs.Processes.{Deeds, no_deeds, and_then, alone}
use Rattle.local_runs.specs.Law.{run_of, sent_by, accepted_by}

-- ---- deeds

module _ {S : Type 0} where
  joined-all : (a b c : Deeds S) → and_then (and_then a b) c ≡ and_then a (and_then b c)
  joined-all a b c = λ k. record {
    state = c.state;
    sent = append_assoc a.sent b.sent c.sent k;
    accepted = sym (append_assoc c.accepted b.accepted a.accepted) k;
  }

  pub none-later : (d : Deeds S) → and_then d (no_deeds d.state) ≡ d
  none-later d = λ k. record { state = d.state; sent = append-nil d.sent k; accepted = d.accepted }

  pub none-earlier : (s : S) (d : Deeds S) → and_then (no_deeds s) d ≡ d
  none-earlier s d = λ k. record { state = d.state; sent = d.sent; accepted = append-nil d.accepted k }

  -- one event more, where it names the party
  abbrev pub next : ℕ → (Happening → S → Deeds S) → Happening → Deeds S → Deeds S
  next p step h d = cond (party_of h.0 == p) (and_then d (step h d.state)) d

  -- the first event of a run, and then the others
  pub joined : (p : ℕ) (step : Happening → S → Deeds S) (h : Happening) (hs : List Happening) (d new : Deeds S)
      → new ≡ next p step h d
      → and_then new (alone step (run_of p hs) new.state) ≡ and_then d (alone step (run_of p (h ∷ hs)) d.state)
  unfolding alone
  joined p step h hs d new e =
      ap (λ (x : Deeds S). and_then x (alone step (run_of p hs) x.state)) e ∙ by (party_of h.0 == p)
    where
      by : (t : Bool)
          → and_then (cond t (and_then d (step h d.state)) d)
          (alone step (run_of p hs) (cond t (and_then d (step h d.state)) d).state)
          ≡ and_then d (alone step (cond t (h ∷ run_of p hs) (run_of p hs)) d.state)
      by true = joined-all d (step h d.state) (alone step (run_of p hs) (step h d.state).state)
      by false = refl

-- ---- what a world has of one party

-- what passes a test, read back as what it was made of
module _ {A B : Type 0} (test : B → Bool) (back : B → A) where
  abbrev pub picked : List B → List A
  picked ys = map back (filter test ys)

  picked-both : (xs ys : List B) → picked (xs ++ ys) ≡ picked xs ++ picked ys
  picked-both xs ys =
      ap (λ (l : List B). map back l) (filter-append test xs ys) ∙ map-append back (filter test xs) (filter test ys)

  picked-all : (make : A → B) → ((x : A) → back (make x) ≡ x) → ((x : A) → test (make x) ≡ true) → (xs : List A)
      → picked (map make xs) ≡ xs
  picked-all make same e [] = refl
  picked-all make same e (x ∷ xs) =
      ap (λ (l : List B). map back l) (cond-true _ _ _ (e x))
      ∙ (λ k. same x k ∷ picked-all make same e xs k)

  picked-none : (make : A → B) → ((x : A) → test (make x) ≡ false) → (xs : List A) → picked (map make xs) ≡ []
  picked-none make e [] = refl
  picked-none make e (x ∷ xs) =
      ap (λ (l : List B). map back l) (cond-false _ _ _ (e x)) ∙ picked-none make e xs

-- a party sends this in an event
abbrev pub sent_in : ℕ → ℕ → Sending → Sent
sent_in now p o = record { event = now; sender = p; to = o.0; frame = o.1 }

abbrev sending_of : Sent → Sending
sending_of s = (s.to, s.frame)

pub sends-own : (now p q : ℕ) → (p == q) ≡ true → (sent : List Sent) (out : List Sending)
    → sent_by q (sent ++ map (sent_in now p) out) ≡ sent_by q sent ++ out
sends-own now p q e sent out =
    picked-both (λ s. s.sender == q) sending_of sent (map (sent_in now p) out)
    ∙ ap (λ (l : List Sending). sent_by q sent ++ l)
    (picked-all (λ s. s.sender == q) sending_of (sent_in now p) (λ o. refl) (λ o. e) out)

pub sends-other : (now p q : ℕ) → (p == q) ≡ false → (sent : List Sent) (out : List Sending)
    → sent_by q (sent ++ map (sent_in now p) out) ≡ sent_by q sent
sends-other now p q e sent out =
    picked-both (λ s. s.sender == q) sending_of sent (map (sent_in now p) out)
    ∙ (ap (λ (l : List Sending). sent_by q sent ++ l)
    (picked-none (λ s. s.sender == q) sending_of (sent_in now p) (λ o. e) out)
    ∙ append-nil (sent_by q sent))

-- a client accepts this in an event
abbrev pub accepted_in : ℕ → ℕ → Receipt → AcceptedBy
accepted_in now c r = record { event = now; client = c; receipt = r }

pub accepts-own : (now c d : ℕ) → (c == d) ≡ true → (rs : List Receipt) (receipts : List AcceptedBy)
    → accepted_by d (map (accepted_in now c) rs ++ receipts) ≡ rs ++ accepted_by d receipts
accepts-own now c d e rs receipts =
    picked-both (λ r. r.client == d) (λ r. r.receipt) (map (accepted_in now c) rs) receipts
    ∙ ap (λ (l : List Receipt). l ++ accepted_by d receipts)
    (picked-all (λ r. r.client == d) (λ r. r.receipt) (accepted_in now c) (λ r. refl) (λ r. e) rs)

pub accepts-other : (now c d : ℕ) → (c == d) ≡ false → (rs : List Receipt) (receipts : List AcceptedBy)
    → accepted_by d (map (accepted_in now c) rs ++ receipts) ≡ accepted_by d receipts
accepts-other now c d e rs receipts =
    picked-both (λ r. r.client == d) (λ r. r.receipt) (map (accepted_in now c) rs) receipts
    ∙ ap (λ (l : List Receipt). l ++ accepted_by d receipts)
    (picked-none (λ r. r.client == d) (λ r. r.receipt) (accepted_in now c) (λ r. e) rs)
