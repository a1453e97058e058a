-- Which call a writer takes, by the kind of the record that is open, if one is.
use Rattle.std.specs.Prelude.{Some, None, Ok, Err, Option, Result}
use Rattle.records.specs.declared.kinds.Kind.{Kind}
use Rattle.records.specs.declared.kinds.Kind.TheVariants.{Html, Text}
use Rattle.writer.specs.declared.faults.WriterFault.{WriterFault}
use Rattle.writer.specs.declared.faults.WriterFault.TheVariants as fault
use Rattle.writer.specs.declared.state.CallKind.{CallKind}
use Rattle.writer.specs.declared.state.CallKind.TheVariants as call

abbrev pub allowed : Option Kind → CallKind → Result (Unit {0}) WriterFault
allowed None call.Open = Ok tt
allowed None call.Markup = Err fault.NoneOpen
allowed None call.Text = Err fault.NoneOpen
allowed None call.Dress = Err fault.NoneOpen
allowed None call.Finish = Err fault.NoneOpen
allowed (Some Html) call.Open = Err fault.AlreadyOpen
allowed (Some Html) call.Markup = Ok tt
allowed (Some Html) call.Text = Ok tt
allowed (Some Html) call.Dress = Ok tt
allowed (Some Html) call.Finish = Ok tt
allowed (Some Text) call.Open = Err fault.AlreadyOpen
allowed (Some Text) call.Markup = Err fault.TextOpen
allowed (Some Text) call.Text = Ok tt
allowed (Some Text) call.Dress = Err fault.TextOpen
allowed (Some Text) call.Finish = Ok tt
