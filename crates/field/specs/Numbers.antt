-- Numbers of a reply in either byte order, by one definition over the width (DRDA V1: I2, I4, I8).
use Rattle.std.specs.Prelude.{List, ℕ, zero, suc, ◌+◌, ◌-◌, ◌*◌, ◌^◌, ltb, ℤ, pos, negsuc, get_or}
use Rattle.search.specs.Search.{pick}
use Rattle.field.specs.declared.ByteOrder.{ByteOrder}
use Rattle.field.specs.declared.ByteOrder.TheVariants.{BigEndian, LittleEndian}

-- the w bytes of s at p as a number, the first byte the highest in BigEndian, the lowest in LittleEndian (DRDA V1: I2, I4, I8; 01: BE, LE)
unfoldable pub number : ByteOrder → ℕ → List ℕ → ℕ → ℕ
number order zero s p = 0
number BigEndian (suc w) s p = get_or s p 0 * 256 ^ w + number BigEndian w s (suc p)
number LittleEndian (suc w) s p = get_or s p 0 + 256 * number LittleEndian w s (suc p)

-- 32 bits as a signed number, in two's complement (DRDA V1: I4)
unfoldable pub signed : ℕ → ℤ
signed bits = pick (ltb bits 0x8000_0000) (pos bits) (negsuc (0xFFFF_FFFF - bits))
