mod OrderLengths
