-- TEXTDATA by ranges, from below: each law is one of the ways through the program's tests.
use Rattle.std.proofs.Common.{◌≡◌, ℕ, ◌<◌, ◌≤◌, true, false, leb, arith, le-leb}
use borrow.Author.Tests.{lt-leb}
use Rattle.motor_table.specs.Rfc4180.{is_textdata}

pub controls : (b : ℕ) → b < 0x20 → false ≡ is_textdata b
unfolding is_textdata
controls b h = simp (lt-leb 0x20 b h, lt-leb 0x23 b (omega arith), lt-leb 0x2d b (omega arith))

pub before-quote : (b : ℕ) → 0x20 ≤ b → b ≤ 0x21 → true ≡ is_textdata b
unfolding is_textdata
before-quote b h k = simp (le-leb 0x20 b h, le-leb b 0x21 k)

pub quote : (b : ℕ) → 0x21 < b → b < 0x23 → false ≡ is_textdata b
unfolding is_textdata
quote b h k = simp (le-leb 0x20 b (omega arith), lt-leb b 0x21 h, lt-leb 0x23 b k, lt-leb 0x2d b (omega arith))

pub before-comma : (b : ℕ) → 0x23 ≤ b → b ≤ 0x2b → true ≡ is_textdata b
unfolding is_textdata
before-comma b h k = simp (le-leb 0x20 b (omega arith), lt-leb b 0x21 (omega arith), le-leb 0x23 b h, le-leb b 0x2b k)

pub comma : (b : ℕ) → 0x2b < b → b < 0x2d → false ≡ is_textdata b
unfolding is_textdata
comma b h k =
    simp (le-leb 0x20 b (omega arith), lt-leb b 0x21 (omega arith), le-leb 0x23 b (omega arith), lt-leb b 0x2b h, lt-leb 0x2d b k)

pub after-comma : (b : ℕ) → 0x2d ≤ b → leb b 0x7e ≡ is_textdata b
unfolding is_textdata
after-comma b h =
    simp (le-leb 0x20 b (omega arith), lt-leb b 0x21 (omega arith), le-leb 0x23 b (omega arith), lt-leb b 0x2b (omega arith), le-leb 0x2d b h)
