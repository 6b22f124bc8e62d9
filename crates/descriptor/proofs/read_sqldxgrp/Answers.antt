-- Each way out by its law, from what the pairs before it promise.
use Rattle.descriptor.proofs.Groups.{dx_unread, base_read, schema_read, dx_read, name_read}
use Rattle.descriptor.proofs.read_sqldxgrp.Goals as goal

pub returns-in-Err-skip_strings : goal.returns-in-Err-skip_strings
returns-in-Err-skip_strings c =
    dx_unread _ _ _ _ _ _ c.in-Ok.ensures c.in-Err-skip_strings.ensures.0 c.in-Err-skip_strings.ensures.1 c.no_string-none.ensures c.with_names.ensures

pub returns-in-Err-read_pair : goal.returns-in-Err-read_pair
returns-in-Err-read_pair c =
    base_read _ _ _ c.in-Ok.ensures _ c.in-Ok-skip_strings.ensures.0 _ c.in-Err-read_pair.ensures.0
    _ _ c.in-Err-read_pair.ensures.1 c.no_string-none-in-Err-read_pair.ensures c.with_names-in-Err-read_pair.ensures

pub returns-in-Err-read_pair-2 : goal.returns-in-Err-read_pair-2
returns-in-Err-read_pair-2 c =
    schema_read _ _ _ c.in-Ok.ensures _ c.in-Ok-skip_strings.ensures.0 _ c.in-Ok-read_pair.ensures.0 _ c.in-Err-read_pair-2.ensures.0
    _ _ c.in-Err-read_pair-2.ensures.1 c.no_string-none-in-Err-read_pair-2.ensures c.with_names-in-Err-read_pair-2.ensures

pub returns-in-Ok-read_pair-3 : goal.returns-in-Ok-read_pair-3
returns-in-Ok-read_pair-3 c =
    dx_read _ _ _ c.in-Ok.ensures _ c.in-Ok-skip_strings.ensures.0 _ c.in-Ok-read_pair.ensures.0 _ c.in-Ok-read_pair-2.ensures.0
    _ _ c.in-Ok-read_pair-3.ensures.0 c.in-Ok-read_pair-3.ensures.1 c.with_names-in-Ok-read_pair-3.ensures

pub returns-in-Err-read_pair-3 : goal.returns-in-Err-read_pair-3
returns-in-Err-read_pair-3 c =
    name_read _ _ _ c.in-Ok.ensures _ c.in-Ok-skip_strings.ensures.0 _ c.in-Ok-read_pair.ensures.0 _ c.in-Ok-read_pair-2.ensures.0
    _ _ c.in-Err-read_pair-3.ensures.0 c.in-Err-read_pair-3.ensures.1 c.with_names-in-Err-read_pair-3.ensures
