-- Nullable groups: an indicator byte in front, FF for null (DRDA V1). In a descriptor it may be missing where the reply ends (01, Layouts).
use Rattle.std.specs.Prelude.{Result, Ok, Err, List, ℕ, suc, ◌+◌, leb, eqb, length, get_or}
use Rattle.search.specs.Search.{pick}

-- flags may be missing at the reply's end (lenient), or may not (strict: complete, no flag that is due is missing) (01, Layouts)
pub data Flags : Type 0 where
  lenient strict : Flags

-- past a flag that is missing at p: nothing is there, or one byte that is due (01, Layouts: complete)
abbrev pub missing : Flags → ℕ → ℕ
missing lenient p = p
missing strict p = suc p

-- past a nullable group whose flag is due at p: nothing follows the flag FF (DRDA V1; 01, Layouts: unless FF)
unfoldable pub nullable_end : Flags → (List ℕ → ℕ → ℕ) → List ℕ → ℕ → ℕ
nullable_end flags f s p = pick (leb (length s) p) (missing flags p) (pick (eqb (get_or s p 0) 0xFF) (p + 1) (f s (p + 1)))

-- what such a group holds, none where it is null or missing (DRDA V1; 01, Layouts: unless FF)
unfoldable pub in_nullable : {A : Type 0} → A → (List ℕ → ℕ → A) → List ℕ → ℕ → A
in_nullable none v s p = pick (leb (length s) p) none (pick (eqb (get_or s p 0) 0xFF) none (v s (p + 1)))

-- where what such a group holds starts, behind its flag; as an error what is past a group that is null or missing (DRDA V1; 01, Layouts: unless FF)
unfoldable pub group_start : List ℕ → ℕ → Result ℕ ℕ
group_start s p = pick (leb (length s) p) (Err p) (pick (eqb (get_or s p 0) 0xFF) (Err (p + 1)) (Ok (p + 1)))
