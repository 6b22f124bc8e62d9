-- The definitions that a proof by computation has to unfold.
use Rattle.search.specs.Walks.{first_of, first, keep, best_of, best, chain}
use Rattle.codepage.specs.Page.{table037}
use Rattle.codepage.specs.Blank.{is_blank_in}
use Rattle.field.specs.Numbers.{number, signed}
use Rattle.strings.specs.Strings.{string_end, strings_end, string_at, chosen, pair_at}
use Rattle.text.specs.Chars.{is_ascii, char_of}
use Rattle.text.specs.Text.{placed, leading, kept, text_on}
use Rattle.text.specs.Generated.{is_generated, is_generated_text}
use Rattle.types.specs.Rows.{type_rows, lookup}
use Rattle.sqlda.specs.Types.{searched_base, row_for, cap_of, sqlda_type}
use Rattle.column.specs.Column.{string_text, name_text, column_with, is_named, has_names}
use Rattle.column.specs.Moved.{move_text, move_column}
use Rattle.descriptor.specs.Nullable.{nullable_end, in_nullable}
use Rattle.descriptor.specs.Descriptor.{udt_end, dx_end, dx_start, opt_end, descriptor_end, dx_pair, opt_name, opt_label, opt_pair, described_at, column_at}
use Rattle.sqlca.specs.Code.{is_near, code_order, code_of}
use Rattle.sqlcard.specs.Alone.{alone_refusal, alone_card}
use Rattle.sqlcard.specs.Group.{group_end, group_refusal, group_card}
use Rattle.sqlcard.specs.Sqldhgrp.{sqldhgrp_end}
use Rattle.descriptor.specs.Reading.{count_at, count_in, descriptors_end, start_of, gives, views, over_columns, standard}
use Rattle.descriptor.specs.Run.{standard_run}
use Rattle.descriptor.specs.Exchange.{splice, with_column, exchange}
use Rattle.compact_table.specs.Table.{looks_compact, next_here, next_compact, table_here, table_at, table_of}
use Rattle.compact.specs.Compact.{ccsid_of, name_here, name_at, compact_name, compact_at, compact_column, compact_end, ffs_here, last_end, end_by}
use Rattle.scan.specs.Score.{exact_score}
use Rattle.scan.specs.Scan.{score, run_from, scan_order, scan_best, scan_columns}
use Rattle.plan.specs.Choice.{compact_columns, last_count_at, last_columns, last_reading, has_columns, choice}
use Rattle.plan.specs.Description.{answer_by, description, with_code_point}
use Rattle.decimal.specs.Decimal.{digits_of, decimal_of}
use Rattle.column_name.specs.Name.{generated_name, given_text, name_of}
use Rattle.widths.specs.Width.{value_width, column_width}
use Rattle.columns.specs.Row.{row_width, large_refusal, row_refusal, row_answer}

-- to unfold this is to unfold them all
unfoldable pub everything : Unit {0}
unfolding first_of first keep best_of best chain table037 is_blank_in number signed string_end strings_end string_at chosen pair_at is_ascii char_of placed leading kept text_on is_generated is_generated_text type_rows lookup searched_base row_for cap_of sqlda_type string_text name_text column_with is_named has_names move_text move_column nullable_end in_nullable udt_end dx_end dx_start opt_end descriptor_end dx_pair opt_name opt_label opt_pair described_at column_at is_near code_order code_of alone_refusal alone_card group_end group_refusal group_card sqldhgrp_end count_at count_in descriptors_end start_of gives views over_columns standard standard_run splice with_column exchange looks_compact next_here next_compact table_here table_at table_of ccsid_of name_here name_at compact_name compact_at compact_column compact_end ffs_here last_end end_by exact_score score run_from scan_order scan_best scan_columns compact_columns last_count_at last_columns last_reading has_columns choice answer_by description with_code_point digits_of decimal_of generated_name given_text name_of value_width column_width row_width large_refusal row_refusal row_answer
everything = tt
