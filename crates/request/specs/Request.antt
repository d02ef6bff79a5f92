-- What a transmit is asked for, as the code has it, read as the rules have it.
-- Assumes nothing.
use Rattle.request.specs.declared.Request.{Request}
use Rattle.rules.specs.Call as rules

abbrev pub request_of : Request → rules.Request
request_of r = record { length = r.length; bytes = r.bytes; reply = r.reply; timeout = r.timeout; flags = r.flags }
