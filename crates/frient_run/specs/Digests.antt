-- The digests of strings that a script may name.
use Rattle.sha2.specs.Sha256.{sha256}
use Rattle.fr_digest.specs.Digest.{Digest, short_digest}
use Rattle.script_read.specs.declared.script.DigestName.{DigestName}
use Rattle.script_read.specs.declared.script.DigestName.TheVariants as names

abbrev pub digest_by : DigestName → Digest
digest_by names.Sha = sha256
digest_by names.Short = short_digest
