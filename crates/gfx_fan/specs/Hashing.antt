-- The digest that a thread is at work on.
use Rattle.std.specs.Prelude.{ℕ, List}
use Rattle.sha2.specs.Sha256.{sha256}
use Rattle.gfx_fan.specs.declared.hashing.Work.{Work}
use Rattle.gfx_fan.specs.declared.hashing.Work.TheVariants.{Thread, Done}

-- the digest that is there in the end: that of the bytes which a thread was given, or the one that was found at once
abbrev pub digest_of : Work → List ℕ
digest_of (Thread thread) = sha256 thread.promise.0.value
digest_of (Done digest) = digest
