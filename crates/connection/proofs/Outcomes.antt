-- What serving comes to, step by step.
use Rattle.std.proofs.Common.{◌≡◌, ℕ, [], ◌++◌, Option, Some, None, Result, Ok, Err, sym, subst, ◌∙◌, inl}
use Rattle.std.proofs.Common.{inr, append-nil}
use Rattle.std.proofs.KnownBytes.{Appends-kept, Consumes-trans, Consumes-whole}
use Rattle.std.specs.Prelude.{IfSome}
use Rattle.std.specs.Io.KnownBytes.{Consumes, Keeps, IsAtEnd}
use Rattle.ids.specs.declared.fault.Fault.{Fault}
use Rattle.ids.specs.declared.fault.Fault.TheVariants as faults
use Rattle.definitions.specs.Bytes.{Bytes}
use Rattle.definitions.proofs.ItemLaws.{IsItemAt-append}
use Rattle.connection.specs.Devices.{CountsOne}
use Rattle.connection.specs.declared.end.End.{End}
use Rattle.connection.specs.declared.end.End.TheVariants.{Input}
use Rattle.connection.specs.Serving.{end_of, ending, State, ServesFront, ServesText, IsServed}
use Rattle.connection.specs.Steps.{ServesLast, ServesHeld, IsNext, IsHeld, IsRound}
use Rattle.connection.proofs.Fronts.{ends_so, never_input, front_then, front_more, text_ended, text_held}
use Rattle.connection.proofs.Fronts.{held_then}

-- of two equal errors
pub same_error : {T : Type 0} (x y : Fault) → ◌≡◌ {A = Result T Fault} (Err x) (Err y) → x ≡ y
same_error x y e = cc

module _ {S : Type 0} (answers : S → Bytes → Option Bytes → S → Type 0) where
  -- the writer failed at an item
  pub next_cut : (a m b : State S) (text held left more : Bytes) (e : Fault)
      → ServesFront answers a m text held → IsNext answers m b held left (Err e)
      → IsHeld answers a b text more (Err e)
  next_cut a m b text held left more faults.WriteFailed g h = (m, held, g, h)
  next_cut a m b text held left more _ g h = absurd h

  -- the writer was flushed
  pub held_flushed :
      (a m : State S) (written : Option Bytes) (failures : ℕ) (held left : Bytes) (end : Option End)
      → ServesHeld answers a m held left end → Keeps m.written written → failures ≡ m.failures
      → ServesHeld answers a (record { service = m.service; written = written; failures = failures }) held
      left end
  held_flushed a m written failures held left None h kept same = (
    record {
      exchanges = h.0.exchanges;
      serving = h.0.serving;
      wrote = Appends-kept a.written m.written written _ h.0.wrote kept;
      unfailed = same ∙ h.0.unfailed;
    },
    h.1,
  )
  held_flushed a m written failures held left (Some end) h kept same = (
    h.0,
    h.1,
    h.2,
    record {
      item = h.3.item;
      used = h.3.used;
      at = h.3.at;
      reply = h.3.reply;
      replies = h.3.replies;
      wrote = Appends-kept h.0.written m.written written _ h.3.wrote kept;
      unfailed = same ∙ h.3.unfailed;
    },
  )

  module _ (a m b : State S) (source rest : Option Bytes) (reads reads_now : ℕ) (read held left : Bytes)
      (taken : Consumes source rest read) (before : ServesFront answers a m read held) where
    -- what serving comes to
    abbrev pub Ends : Result End Fault → Type 0
    Ends =
        IsServed answers (record { state = a; unread = source; failures = reads })
        (record { state = b; unread = rest; failures = reads_now })

    -- the writer failed
    pub ends_cut : reads_now ≡ reads → (e : Fault) → IsRound answers m b held left (Err e)
        → Ends (Err e)
    ends_cut same faults.WriteFailed (inl h) =
        (read, taken, inl (h.0, h.1, front_then answers a h.0 m read held h.1 before h.2, h.3), same)
    ends_cut same faults.WriteFailed (inr h) = (
      read,
      taken,
      inr (
        h.0,
        h.1,
        text_held answers a h.0 read left h.1 (held_then answers a m h.0 read held left h.1 before h.2),
        h.3,
      ),
      same,
    )
    ends_cut same _ h = absurd h

    -- an item ended the connection
    pub ends_by_item : reads_now ≡ reads → (end : End) → ServesHeld answers m b held left (Some end)
        → Ends (Ok end)
    ends_by_item same end h = (
      read,
      taken,
      subst (ServesText answers a b read) (sym so) (text_held answers a b read left (Some end)
          (held_then answers a m b read held left (Some end) before h)),
      whole source rest taken,
      λ e. absurd (never_input last.replies.exchange
          (subst (λ (n : End). Some n ≡ end_of last.replies.exchange) e last.replies.ends)),
      same,
    )
      where
        last : ServesLast answers h.0 b h.1 end
        last = h.3

        so : ending end ≡ Some end
        so = ends_so last.replies.exchange end last.replies.ends

        last_more : (more : Bytes) → ServesLast answers h.0 b (h.1 ++ more) end
        last_more more = record {
          item = last.item;
          used = last.used;
          at = IsItemAt-append h.1 more last.item last.used last.at;
          reply = last.reply;
          replies = last.replies;
          wrote = last.wrote;
          unfailed = last.unfailed;
        }

        -- also of what wasn't read
        whole : (s r : Option Bytes) → Consumes s r read
            → IfSome s (λ input. ServesText answers a b input (ending end))
        whole None r c = tt
        whole (Some input) None c = absurd c
        whole (Some input) (Some more) c =
            let front = front_more answers a h.0 read h.1 more
            (front_then answers a h.0 m read held h.1 before h.2) in
            subst (λ (t : Bytes). ServesText answers a b t (ending end)) (sym c)
            (subst (ServesText answers a b (read ++ more)) (sym so)
            (text_ended answers a b h.0 (read ++ more) (h.1 ++ more) end front (last_more more)))

    -- the reader failed
    pub ends_by_reader : CountsOne reads reads_now → ServesHeld answers m b held left None
        → Ends (Err faults.ReadFailed)
    ends_by_reader risen h = (
      read,
      taken,
      text_held answers a b read left None (held_then answers a m b read held left None before h),
      risen,
    )

    -- the end of the input
    pub ends_by_input : reads_now ≡ reads → IsAtEnd rest → ServesHeld answers m b held left None
        → Ends (Ok Input)
    ends_by_input same at_end h =
        let served =
        text_held answers a b read left None (held_then answers a m b read held left None before h) in (
          read,
          taken,
          served,
          Consumes-whole source rest read (λ input. ServesText answers a b input None) taken at_end served,
          λ e. at_end,
          same,
        )

-- where then nothing was read
pub Consumes-and_none : (a b c : Option Bytes) (x : Bytes) → Consumes a b x → Consumes b c [] → Consumes a c x
Consumes-and_none a b c x p q =
    subst (λ (t : Bytes). Consumes a c t) (append-nil x) (Consumes-trans a b c x [] p q)
