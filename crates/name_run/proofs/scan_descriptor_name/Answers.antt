-- The ways out: no room for the option flag, FF, and by what was found among the strings of a layout that can be read.
use Rattle.std.proofs.Common.{[], ◌∷◌, sym, ◌∙◌, arith, rules}
use Rattle.strings.proofs.Strings.{some_read, some_whole}
use Rattle.codepage.specs.Page.{page037}
use Rattle.name_run.proofs.Layouts.{named_short, named_null, string_read_inside, extension_inside, each_of_three, Found, named_by}
use Rattle.name_run.proofs.scan_descriptor_name.Goals as goal

pub returns-then-saturating_sub-lt17-clause-scanned : goal.returns-then-saturating_sub-lt17-clause-scanned
returns-then-saturating_sub-lt17-clause-scanned c = named_short _ _ _ (omega (arith, c.saturating_sub.ensures, c.if-saturating_sub-lt17.true))

pub returns-then-reply-offset-clause-scanned : goal.returns-then-reply-offset-clause-scanned
returns-then-reply-offset-clause-scanned c =
    named_null _ _ _ (omega (arith, c.saturating_sub.ensures, c.if-saturating_sub-lt17.false)) c.if-reply-offset.true

-- whatever their order: which of them comes first is the fact of the goal below
pub scanned_name-requires : goal.scanned_name-requires
scanned_name-requires c =
    let m = some_read _ _ _ _ c.read_string.ensures.at _ (sym c.ok.ensures.value ∙ c.in_ok-m.was) in
    let s = some_read _ _ _ _ c.read_string-2.ensures.at _ (sym c.ok-2.ensures.value ∙ c.in_ok-s.was) in
    let x = some_whole _ _ _ _ c.read_sqldxgrp.ensures _ (sym c.ok-5.ensures.value ∙ c.in_ok-extension.was) in
    let i = string_read_inside _ _ _ m.0 in
    let j = string_read_inside _ _ _ s.0 in
    let k = extension_inside _ _ _ x.0 in
    search (rules, i, j, k, each_of_three)

pub returns : goal.returns
returns c =
    let m = some_read _ _ _ _ c.read_string.ensures.at _ (sym c.ok.ensures.value ∙ c.in_ok-m.was) in
    let s = some_read _ _ _ _ c.read_string-2.ensures.at _ (sym c.ok-2.ensures.value ∙ c.in_ok-s.was) in
    let q = some_read _ _ _ _ c.skip_strings.ensures _ (sym c.ok-3.ensures.value ∙ c.in_ok-comments_end.was) in
    let u = some_read _ _ _ _ c.skip_sqludtgrp.ensures _ (sym c.ok-4.ensures.value ∙ c.in_ok-udt_end.was) in
    let x = some_whole _ _ _ _ c.read_sqldxgrp.ensures _ (sym c.ok-5.ensures.value ∙ c.in_ok-extension.was) in
    let f : Found page037 c.args.reply.now (c.in_ok-m.m ∷ c.in_ok-s.s ∷ c.in_ok-extension.extension.name ∷ []) c.in_ok-extension.extension.next c.scanned_name.result =
    search (rules, c.scanned_name.ensures) in
    let r =
    named_by page037 _ _ (omega (arith, c.saturating_sub.ensures, c.if-saturating_sub-lt17.false)) c.if-reply-offset.false
    _ m.0 _ s.0 _ q.0 _ u.0 _ x.0 x.1 _ f in
    record { scanned = r.0; inside = r.1 }
