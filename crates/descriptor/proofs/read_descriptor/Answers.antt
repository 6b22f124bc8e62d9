-- It is what its two groups say.
use Rattle.strings.proofs.Strings.{read_is}
use Rattle.descriptor.proofs.Steps.{described_read}
use Rattle.descriptor.proofs.read_descriptor.Goals as goal

pub returns : goal.returns
returns c =
    let o = read_is _ _ _ _ c.read_sqldoptgrp.ensures _ c.unwrap-options.ensures in
    described_read _ _ _ c.read_sqldagrp-numbers.result c.unwrap-options.result c.requires c.read_sqldagrp-numbers.ensures o
