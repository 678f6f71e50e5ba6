-- What an item is answered.
use Rattle.std.proofs.Common.{◌≡◌, Bool, Option, Some, None, refl, sym, ap, subst}
use Rattle.std.specs.Prelude.{codes}
use Rattle.ids.specs.declared.line_fault.LineFault.{LineFault}
use Rattle.definitions.specs.Bytes.{Bytes}
use Rattle.definitions.specs.Requests.{Asked, canonical}
use Rattle.definitions.specs.Items.{asked, bad}
use Rattle.definitions.specs.Replies.{ended}
use Rattle.definitions.specs.ServerText.{answered, told, exchange_text}
use Rattle.connection.specs.declared.end.End.{End}
use Rattle.connection.specs.declared.end.End.TheVariants.{NoReply}
use Rattle.connection.specs.Serving.{Replies, end_of}

module _ {S : Type 0} (answers : S → Bytes → Option Bytes → S → Type 0) (old new : S) (r : Asked) (n : Bool)
    (payload : Bytes) (same : payload ≡ canonical r) where
  -- the service refused
  pub replies_refused : answers old payload None new
      → Replies answers old new (asked r n) (ended (codes "SERVER_ERROR no reply")) (Some NoReply)
  replies_refused h = record {
    exchange = answered r n None;
    is = refl;
    call = subst (λ (p : Bytes). answers old p None new) same h;
    says = refl;
    ends = refl;
  }

  -- it answered
  pub replies_answered : (quiet : Bool) (text said : Bytes) → answers old payload (Some text) new
      → n ≡ quiet → said ≡ exchange_text (answered r quiet (Some text))
      → Replies answers old new (asked r n) said None
  replies_answered quiet text said h is says = record {
    exchange = answered r quiet (Some text);
    is = ap (λ (b : Bool). asked r b) (sym is);
    call = subst (λ (p : Bytes). answers old p (Some text) new) same h;
    says = says;
    ends = refl;
  }

-- a line's fault calls no service
pub replies_fault : {S : Type 0} (answers : S → Bytes → Option Bytes → S → Type 0) (s : S)
    (fault : LineFault) (text : Bytes) (end : Option End) → text ≡ exchange_text (told fault)
    → end ≡ end_of (told fault) → Replies answers s s (bad fault) text end
replies_fault answers s fault text end says ends =
    record { exchange = told fault; is = refl; call = refl; says = says; ends = ends }
