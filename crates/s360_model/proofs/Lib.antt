mod KnownValues
mod KnownArithmetic
