use Rattle.std.proofs.Common.{◌∙◌, sym}
use Rattle.std.proofs.KnownBytes.{Consumes-trans}
use Rattle.wires.proofs.Answered.{on_ok}
use Rattle.wires.proofs.meeting.meet.Goals as goal

pub returns-in-Ok-hear : goal.returns-in-Ok-hear
returns-in-Ok-hear g c = record {
  greeting = c.read_exact.new.buf;
  answer = c.read_exact-2.new.buf;
  dialling = c.in-Ok.dialling;
  consumed = Consumes-trans (g.D.Read.remaining c.args.reader.now) (g.D.Read.remaining c.read_exact.new.self)
      (g.D.Read.remaining c.read_exact-2.new.self) c.read_exact.new.buf c.read_exact-2.new.buf
      (on_ok c.read_exact.result _ (sym c.is_err.ensures.value ∙ c.if-is_err.false) c.read_exact.ensures.bytes)
      (on_ok c.read_exact-2.result _ (sym c.is_err-3.ensures.value ∙ c.if-is_err-3.false)
      c.read_exact-2.ensures.bytes);
  dialled_so = sym c.dial.ensures ∙ c.in-Ok.is;
  asked = rw c.ask.ensures
      at (on_ok c.write_all.result _ (sym c.is_err-2.ensures.value ∙ c.if-is_err-2.false) c.write_all.ensures.bytes);
  heard_so = sym c.hear.ensures ∙ c.in-Ok-hear.is;
}
