-- Why a script stops: a fault of its text, or of its reader or writer.
use Rattle.gu_streams.specs.declared.error.StreamError.{StreamError}
use Rattle.gu_streams.specs.declared.error.StreamError.TheVariants as stream_error
use Rattle.gu_text.specs.declared.error.TextError.{TextError}
use Rattle.gu_text.specs.declared.error.TextError.TheVariants as text_error
use Rattle.gu_script.specs.declared.error.ScriptError.{ScriptError}
use Rattle.gu_script.specs.declared.error.ScriptError.TheVariants.{Memory, Read, Write, BadLine}

-- for a fault of the text: out of memory, or this line is bad
abbrev pub error_of : TextError → ScriptError
error_of text_error.Memory = Memory
error_of (text_error.BadLine number) = BadLine number

-- for a fault of a reader or a writer
abbrev pub error_of_stream : StreamError → ScriptError
error_of_stream stream_error.Memory = Memory
error_of_stream stream_error.Read = Read
error_of_stream stream_error.Write = Write
