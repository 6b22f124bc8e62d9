-- From the end, `position` finds the first byte that is no blank.
use Rattle.std.proofs.Common.{not, rules, tests}
use Rattle.std.proofs.lemmas.Iterator.Adapters.{YieldsList-from_rev_slice}
use Rattle.std.proofs.lemmas.Iterator.Search.{position_from_yields_List}
use Rattle.codepage.specs.Page.{page037}
use Rattle.text.specs.Alphabet.{alphabet_number}
use Rattle.text.specs.Chars.{is_blank_of}
use Rattle.text.proofs.Trim.{kept_found, kept_none}
use Rattle.text.proofs.kept_bytes.Goals as goal

pub returns-in-Some : goal.returns-in-Some
returns-in-Some c =
    kept_found (is_blank_of page037 (alphabet_number c.args.alphabet)) c.args.bytes.now c.position.result
    (position_from_yields_List (λ b. not (is_blank_of page037 (alphabet_number c.args.alphabet) b)) _ _ c.position.result c.position.ensures.ran
    (YieldsList-from_rev_slice c.args.bytes.now cc) (λ x b q k. search (rules, tests))) _ c.in-Some.is

pub returns-in-None : goal.returns-in-None
returns-in-None c =
    kept_none (is_blank_of page037 (alphabet_number c.args.alphabet)) c.args.bytes.now c.position.result
    (position_from_yields_List (λ b. not (is_blank_of page037 (alphabet_number c.args.alphabet) b)) _ _ c.position.result c.position.ensures.ran
    (YieldsList-from_rev_slice c.args.bytes.now cc) (λ x b q k. search (rules, tests))) c.in-None.is
