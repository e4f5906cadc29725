-- Why the program ends with status 1.
use Rattle.gu_streams.specs.declared.error.StreamError.TheVariants.{Memory}
use Rattle.gu_ref.specs.declared.error.RefFault.{RefFault}
use Rattle.gu_ref.specs.declared.error.RefFault.TheVariants as fault
use Rattle.gu_secrets.specs.declared.error.SecretsFault.{SecretsFault}
use Rattle.gu_secrets.specs.declared.error.SecretsFault.TheVariants as secrets_fault
use Rattle.gu_program.specs.declared.error.RunError.{RunError}
use Rattle.gu_program.specs.declared.error.RunError.TheVariants.{Reference, Secrets, Stream}
use Rattle.gu_program.specs.declared.error.SecretsError.TheVariants.{BadRow}

-- a reference that wasn't read for want of memory is a want of memory; any other fault is the reference's
abbrev pub error_after : RefFault → RunError
error_after fault.Memory = Stream Memory
error_after (fault.BadRow line) = Reference (fault.BadRow line)
error_after (fault.Unknown line) = Reference (fault.Unknown line)
error_after (fault.Twice line) = Reference (fault.Twice line)
error_after fault.TooMany = Reference fault.TooMany
error_after fault.ReadFault = Reference fault.ReadFault

-- the same of secrets
abbrev pub error_after_secrets : SecretsFault → RunError
error_after_secrets secrets_fault.Memory = Stream Memory
error_after_secrets (secrets_fault.BadRow line) = Secrets (BadRow line)
