-- Bytes one after the other are bytes.
use Rattle.std.proofs.Common.{◌≡◌, ℕ, ◌<◌, ◌+◌, List, [], ◌∷◌, ◌++◌, length, take, get_or}
use Rattle.chord_io.specs.Digits.{AreBytes}
use Rattle.chord_io.proofs.Joined.{before_next}

-- one more byte
pub bytes_push : (bytes : List ℕ) (b : ℕ) → AreBytes bytes → b < 256 → AreBytes (bytes ++ (b ∷ []))
bytes_push [] b all here = (here, tt)
bytes_push (x ∷ bytes) b (first, all) here = (first, bytes_push bytes b all here)

-- the bytes before the next place
pub bytes_next : (bytes : List ℕ) (i : ℕ) (b d : ℕ) → i < length bytes → b ≡ get_or bytes i d → AreBytes (take i bytes) → b < 256 → AreBytes (take (i + 1) bytes)
bytes_next bytes i b d within at all here = rw (before_next bytes i b d within at) (bytes_push (take i bytes) b all here)
