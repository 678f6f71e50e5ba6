-- Frames that are handed on in several steps.
use Rattle.std.proofs.Common.{◌∙◌, ℕ, ◌≤◌, List, [], ◌∷◌, ◌++◌, length, refl, sym, ap, subst, arith, append_assoc}
use Rattle.std.proofs.lemmas.List.{append-nil}
use Rattle.std.proofs.lemmas.Grind.{flat_map-append}
use Rattle.definitions.specs.Bytes.{Bytes}
use Rattle.std.specs.Prelude.{Option}
use Rattle.std.specs.Io.KnownBytes.{Consumes}
use Rattle.std.proofs.KnownBytes.{Consumes-trans}
use Rattle.wire_frames.specs.Framing.{Holding, on_wire, stream}
use Rattle.wires.specs.Receiving.{HandsOn, Passes, ReceivesMore}

module _ {A : Type 0} (takes : A → ℕ → Bytes → A → Type 0) (from : ℕ) where
  -- some frames, and then others
  HandsOn-append : (xs ys : List Bytes) (a b c : A) → HandsOn takes from a xs b → HandsOn takes from b ys c
      → HandsOn takes from a (xs ++ ys) c
  HandsOn-append [] ys a b c p q = subst (λ (z : A). HandsOn takes from z ys c) p q
  HandsOn-append ([] ∷ xs) ys a b c p q = HandsOn-append xs ys a b c p q
  HandsOn-append ((x ∷ bytes) ∷ xs) ys a b c p q = (p.0, p.1, HandsOn-append xs ys p.0 b c p.2 q)

  -- nothing is whole
  pub Passes-none : (a : A) (held : Bytes) → Passes takes from a a held held
  Passes-none a held = record { frames = []; are = refl; hands = refl }

  -- some steps, and then others
  pub Passes-trans : (a b c : A) (bytes mid left : Bytes) → Passes takes from a b bytes mid
      → Passes takes from b c mid left → Passes takes from a c bytes left
  Passes-trans a b c bytes mid left p q = record {
    frames = p.frames ++ q.frames;
    are = p.are ∙ (ap (λ (l : Bytes). stream p.frames ++ l) q.are
        ∙ (sym (append_assoc (stream p.frames) (stream q.frames) left)
        ∙ ap (λ (l : Bytes). l ++ left) (sym (flat_map-append on_wire p.frames q.frames))));
    hands = HandsOn-append p.frames q.frames a b c p.hands q.hands;
  }

  -- one frame
  pub Passes-one : (a b : A) (frame left : Bytes) → 1 ≤ length frame → takes a from frame b
      → Passes takes from a b (on_wire frame ++ left) left
  Passes-one a b [] left h t = absurd (omega arith)
  Passes-one a b (x ∷ bytes) left h t = record {
    frames = (x ∷ bytes) ∷ [];
    are = ap (λ (l : Bytes). l ++ left) (sym (append-nil (on_wire (x ∷ bytes))));
    hands = (b, t, refl);
  }

  -- a ping
  pub Passes-ping : (a : A) (left : Bytes) → Passes takes from a a (on_wire [] ++ left) left
  Passes-ping a left = record {
    frames = [] ∷ [];
    are = ap (λ (l : Bytes). l ++ left) (sym (append-nil (on_wire [])));
    hands = refl;
  }

  -- more came behind
  pub Passes-more : (a b : A) (bytes left more : Bytes) → Passes takes from a b bytes left
      → Passes takes from a b (bytes ++ more) (left ++ more)
  Passes-more a b bytes left more p = record {
    frames = p.frames;
    are = ap (λ (l : Bytes). l ++ more) p.are ∙ append_assoc (stream p.frames) left more;
    hands = p.hands;
  }

  -- nothing came
  pub ReceivesMore-none : (a : A) (source rest : Option Bytes) (held : Holding) → Consumes source rest []
      → ReceivesMore takes from a a source rest held held
  ReceivesMore-none a source rest held c = record {
    read = [];
    consumed = c;
    passed = subst (λ (l : Bytes). Passes takes from a a l held.held) (sym (append-nil held.held))
        (Passes-none a held.held);
  }

  -- what was received before, and then more
  pub Receives-then : (a b c : A) (source mid rest : Option Bytes) (read : Bytes) (before after : Holding)
      → Consumes source mid read → Passes takes from a b read before.held
      → ReceivesMore takes from b c mid rest before after
      → (all : Bytes) × Consumes source rest all × Passes takes from a c all after.held
  Receives-then a b c source mid rest read before after p q more = (
    read ++ more.read,
    Consumes-trans source mid rest read more.read p more.consumed,
    Passes-trans a b c (read ++ more.read) (before.held ++ more.read) after.held
        (Passes-more a b read before.held more.read q) more.passed,
  )

  -- some came, and then more
  pub ReceivesMore-trans : (a b c : A) (source mid rest : Option Bytes) (before between after : Holding)
      → ReceivesMore takes from a b source mid before between → ReceivesMore takes from b c mid rest between after
      → ReceivesMore takes from a c source rest before after
  ReceivesMore-trans a b c source mid rest before between after p q = record {
    read = p.read ++ q.read;
    consumed = Consumes-trans source mid rest p.read q.read p.consumed q.consumed;
    passed = subst (λ (l : Bytes). Passes takes from a c l after.held)
        (append_assoc before.held p.read q.read)
        (Passes-trans a b c ((before.held ++ p.read) ++ q.read) (between.held ++ q.read) after.held
        (Passes-more a b (before.held ++ p.read) between.held q.read p.passed) q.passed);
  }
