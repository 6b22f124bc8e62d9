pub mod Card
pub mod Alone
pub mod Group
pub mod Sqldhgrp
