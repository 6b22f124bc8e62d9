pub mod Column
pub mod Sqldagrp
pub mod Numbers
pub mod Moved
