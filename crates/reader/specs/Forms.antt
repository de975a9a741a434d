-- The call that a form says.
use Rattle.std.specs.Prelude.{Option, None, Some}
use Rattle.model.specs.Calls.{Call, format, put, get, del, flush, count, drop}
use Rattle.reader.specs.declared.Form.{Form}

abbrev pub form_call : Form → Call
form_call (Form.Format g) = format g
form_call (Form.Put k v) = put k v
form_call (Form.Get k) = get k
form_call (Form.Del k) = del k
form_call (Form.Flush t) = flush t
form_call (Form.Count t) = count t
form_call (Form.Drop t) = drop t

-- of a line: none where it says no form
abbrev pub said : Option Form → Option Call
said (Some form) = Some (form_call form)
said None = None
